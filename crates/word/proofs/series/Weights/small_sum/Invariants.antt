-- `word::series::Weights::small_sum` meets its contract. The invariant: the total so far and the sum of what is left make up the whole.
-- Assumes nothing.
use mathlib.Core.Path.{◌≡◌}
use Prim.Native.Nat.{◌+◌, ◌<◌, ◌^◌}
use Rattle.cells.specs.Cells.{cells}
use Rattle.word.specs.Word.{sum}
use Rattle.word.proofs.series.Weights.small_sum.Given as goal

abbrev pub invariant-loop-rest : goal.invariant-loop-rest
invariant-loop-rest l = (l.rest < 2 ^ 46) × (l.total + sum (cells 46 l.rest) ≡ sum l.fn.word)

abbrev pub decreases-loop-rest : goal.decreases-loop-rest
decreases-loop-rest l = l.rest
