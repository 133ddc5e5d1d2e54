-- `rows::first_round::read_words` meets its contract: before word i the values of the words before it are at the output's start.
-- Assumes nothing.
use native.Mathlib.Omega.{arith}
use Rattle.rows.proofs.Loaded.{legal_sparse}
use Rattle.rows.proofs.ReadWords.{reading_start, reading_turn}
use Rattle.rows.proofs.first_round.read_words.Goals as goal

pub loop-i-init : goal.loop-i-init
loop-i-init c =
    reading_start _ _

pub sum-requires : goal.sum-requires
sum-requires c =
    legal_sparse _ _ _ _ c.requires.1 (omega arith) c.load_word.ensures

pub loop-i-preserved : goal.loop-i-preserved
loop-i-preserved c =
    reading_turn _ _ _ _ _ _ _ c.loop-i.invariant c.load_word.ensures c.sum.ensures c.put_bytes.ensures
