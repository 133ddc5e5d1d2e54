-- `block::is_marked` meets its contract. Assumes nothing.
use mathlib.Core.Path.{refl}
use Rattle.cells.specs.Cells.{bit}
use Rattle.block.proofs.is_marked.Goals as goal

pub returns : goal.returns
unfolding bit
returns c =
    refl
