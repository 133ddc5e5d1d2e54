-- `cells::Word::bits` meets its contract: the cells of the number that it holds write that number.
-- Assumes nothing.
use mathlib.Core.Path.{sym, ap, ◌∙◌}
use Rattle.cells.specs.Cells.{number}
use Rattle.cells.specs.Numbers.{number_cells}
use Rattle.cells.proofs.word.Word.bits.Goals as goal

pub returns-clause-number : goal.returns-clause-number
returns-clause-number c =
    sym (ap number (sym c.self.view_is) ∙ number_cells 46 _ c.self.invariant)
