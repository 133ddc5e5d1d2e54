-- `rows::first_round::write_words` meets its contract: before word i the words before it are in. Assumes nothing.
use Prim.Native.Nat.{◌*◌}
use native.Mathlib.Omega.{arith}
use lib.ListN.{drop}
use Rattle.rows.proofs.FirstRecord.{value_le}
use Rattle.rows.proofs.WriteWords.{writing_start, writing_turn}
use Rattle.rows.proofs.first_round.write_words.Goals as goal

pub loop-i-init : goal.loop-i-init
loop-i-init c =
    writing_start _ _ (λ j. omega (arith, c.type_inv.page j))

pub overflow_cast-value : goal.overflow_cast-value
overflow_cast-value c =
    omega (arith, c.four_bytes-value.ensures, value_le (drop (4 * c.loop-i.i) c.args.first.now))

pub loop-i-preserved : goal.loop-i-preserved
loop-i-preserved c =
    writing_turn _ _ _ _ _ _ _ (omega arith) c.loop-i.invariant c.four_bytes-value.ensures c.encode.ensures c.store_word.ensures
