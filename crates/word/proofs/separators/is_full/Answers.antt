-- `word::separators::is_full` meets its contract: a word is full exactly if it has no free cell.
-- Assumes nothing.
use mathlib.Core.Path.{ap, ◌∙◌}
use Rattle.cells.specs.Cells.{number}
use Rattle.word.proofs.FreeCells.{full_held}
use Rattle.word.proofs.separators.is_full.Goals as goal

pub returns : goal.returns
returns c =
    full_held _ _ (c.bits.ensures.cells ∙ c.free_cells.ensures) (c.bits.ensures.number ∙ ap number c.free_cells.ensures)
