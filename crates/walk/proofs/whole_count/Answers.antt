-- `walk::whole_count` meets its contract: each cell is a bit, but for the separators and a single last cell.
-- Assumes nothing.
use mathlib.Core.Path.{ap, ◌∙◌}
use native.Mathlib.Omega.{arith}
use Rattle.cells.specs.Cells.{number}
use Rattle.walk.proofs.Whole.{count_held}
use Rattle.walk.proofs.whole_count.Goals as goal

pub overflow_sub-result : goal.overflow_sub-result
overflow_sub-result c =
    let s = c.bits-starts.ensures in omega (arith, count_held _ _ (s.cells ∙ c.requires) (s.number ∙ ap number c.requires))

pub returns : goal.returns
returns c =
    let s = c.bits-starts.ensures in omega (arith, count_held _ _ (s.cells ∙ c.requires) (s.number ∙ ap number c.requires))
