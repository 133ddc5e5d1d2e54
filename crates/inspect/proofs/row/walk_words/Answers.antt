-- `inspect::row::walk_words` meets its contract: before word i the words before it are walked and put aside, and their walks took the record's
-- bits before bit `next`. Assumes nothing.
use mathlib.Core.Path.{ap}
use native.Mathlib.Omega.{arith}
use lib.ListN.{length}
use Rattle.window.proofs.Words.{length_word_at}
use Rattle.rows.proofs.Loaded.{legal_sparse}
use Rattle.walk.proofs.Walking.{taken_most}
use Rattle.inspect.proofs.WalkWords.{walking_start, walking_next, walking_turn}
use Rattle.inspect.proofs.row.walk_words.Goals as goal

pub loop-i-init : goal.loop-i-init
loop-i-init c =
    walking_start _ _ _ _ (λ j. omega (arith, c.type_inv.aside j)) c.requires.3

pub walk_word-walked-requires : goal.walk_word-walked-requires
walk_word-walked-requires c = (
  legal_sparse _ _ _ _ c.requires.2 (omega arith) c.load_word-word.ensures,
  omega (arith, c.bits_left-count.ensures),
  walking_next _ _ _ _ _ _ _ c.loop-i.invariant (omega arith) (omega arith) _ _ c.bits_left-count.ensures c.next_bits.ensures,
)

pub overflow_add-next : goal.overflow_add-next
overflow_add-next c =
    omega (arith, c.loop-i.invariant.few, c.walk_word-walked.ensures.taken_are, taken_most, ap length c.load_word-word.ensures, length_word_at c.args.page.now c.loop-i.i (omega arith), c.requires)

pub loop-i-preserved : goal.loop-i-preserved
loop-i-preserved c =
    walking_turn _ _ _ _ _ _ _ c.loop-i.invariant (omega arith) (omega arith) _ _ _ _ _ _ c.load_word-word.ensures c.bits_left-count.ensures
    c.next_bits.ensures c.walk_word-walked.ensures c.store_word.ensures
