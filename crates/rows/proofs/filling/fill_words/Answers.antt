-- `rows::filling::fill_words` meets its contract: before word i the words before it are filled, and the total is their pulses.
-- Assumes nothing.
use native.Mathlib.Omega.{arith}
use Rattle.word.specs.Fill.{fill_pulses}
use Rattle.word.proofs.Pulses.{fill_kept}
use Rattle.rows.proofs.Sums.{summing_start, summing_turn}
use Rattle.rows.proofs.FillWords.{filling_start, filling_turn, pulses_turn}
use Rattle.rows.proofs.filling.fill_words.Goals as goal

pub loop-i-init : goal.loop-i-init
loop-i-init c =
    (filling_start _ (λ j. omega (arith, c.type_inv.page j)), summing_start fill_pulses 46 _)

pub pulses_of-total-requires : goal.pulses_of-total-requires
pulses_of-total-requires c =
    fill_kept _ _ c.fill_word-after.ensures

pub overflow_add-total : goal.overflow_add-total
overflow_add-total c =
    let p = pulses_turn _ _ _ c.loop-i.invariant.0 (omega arith) _ _ _ c.load_word-before.ensures c.fill_word-after.ensures c.pulses_of-total.ensures in
    omega (arith, p.1, c.loop-i.invariant.1.few)

pub loop-i-preserved : goal.loop-i-preserved
loop-i-preserved c =
    let p = pulses_turn _ _ _ c.loop-i.invariant.0 (omega arith) _ _ _ c.load_word-before.ensures c.fill_word-after.ensures c.pulses_of-total.ensures in (
      filling_turn _ _ _ c.loop-i.invariant.0 (omega arith) _ _ _ c.load_word-before.ensures c.fill_word-after.ensures c.exchange_word.ensures,
      summing_turn fill_pulses 46 _ _ _ _ p.0 p.1 c.loop-i.invariant.1,
    )
