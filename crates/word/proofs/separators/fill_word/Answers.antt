-- `word::separators::fill_word` meets its contract: the fill adds every second cell of each run of free cells.
-- Assumes nothing.
use mathlib.Core.Path.{ap, ◌∙◌}
use Rattle.cells.specs.Cells.{number}
use Rattle.word.specs.Fill.{clear}
use Rattle.word.proofs.FreeCells.{fill_held}
use Rattle.word.proofs.separators.fill_word.Goals as goal

pub new-requires : goal.new-requires
new-requires c =
    let s = c.bits-2.ensures.number ∙ ap number (c.separators_of.ensures ∙ ap clear c.free_cells.ensures) in
    (fill_held _ _ _ c.bits.ensures.cells c.bits.ensures.few s).0

pub returns : goal.returns
returns c =
    let s = c.bits-2.ensures.number ∙ ap number (c.separators_of.ensures ∙ ap clear c.free_cells.ensures) in
    c.new.ensures ∙ (fill_held _ _ _ c.bits.ensures.cells c.bits.ensures.few s).1
