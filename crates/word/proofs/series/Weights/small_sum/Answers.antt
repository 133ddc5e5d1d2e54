-- `word::series::Weights::small_sum` meets its contract. The invariant: the total so far and the sum of what is left make up the whole.
-- Assumes nothing.
use mathlib.Core.Path.{ap}
use native.Mathlib.Omega.{arith}
use Rattle.word.specs.Word.{sum}
use Rattle.word.proofs.SetCells.{low_of, low_small, low_less}
use Rattle.word.proofs.Totals.{sum_turn, sum_end}
use Rattle.word.proofs.series.Weights.small_sum.Goals as goal

pub loop-rest-init : goal.loop-rest-init
loop-rest-init c =
    (c.bits-rest.ensures.few, omega (arith, ap sum c.bits-rest.ensures.cells))

pub weight-total-requires : goal.weight-total-requires
weight-total-requires c =
    low_small _ _ c.loop-rest.invariant.0 (low_of _ (omega arith) c.loop-rest.invariant.0)

pub overflow_add-total : goal.overflow_add-total
overflow_add-total c =
    let low = low_of _ (omega arith) c.loop-rest.invariant.0 in
    omega (arith, sum_turn _ _ _ _ _ c.loop-rest.invariant.0 low c.weight-total.ensures c.loop-rest.invariant.1, c.requires)

pub loop-rest-preserved : goal.loop-rest-preserved
loop-rest-preserved c =
    let low = low_of _ (omega arith) c.loop-rest.invariant.0 in
    (omega (arith, low_less _ _ low, c.loop-rest.invariant.0), sum_turn _ _ _ _ _ c.loop-rest.invariant.0 low c.weight-total.ensures c.loop-rest.invariant.1)

pub returns : goal.returns
returns c =
    sum_end _ _ _ (omega arith) c.loop-rest.invariant.1
