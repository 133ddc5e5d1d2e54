-- `word::separators::free_cells` meets its contract: digit for digit, the code is the rule of a free cell.
-- Assumes nothing.
use mathlib.Core.Path.{◌∙◌}
use Rattle.word.proofs.FreeCells.{free_code, free_held}
use Rattle.word.proofs.separators.free_cells.Goals as goal

pub new-requires : goal.new-requires
new-requires c =
    (free_held _ _ _ c.bits-bits.ensures.cells (free_code _ c.bits-bits.ensures.few)).0

pub returns : goal.returns
returns c =
    c.new.ensures ∙ (free_held _ _ _ c.bits-bits.ensures.cells (free_code _ c.bits-bits.ensures.few)).1
