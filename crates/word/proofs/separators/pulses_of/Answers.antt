-- `word::separators::pulses_of` meets its contract: where no cell is cleared, the cells that differ are the new ones. Assumes nothing.
use mathlib.Core.Path.{ap₂, ◌∙◌}
use Rattle.cells.specs.Cells.{kept, pulses}
use Rattle.cells.proofs.Tests.{holds}
use Rattle.word.proofs.Differing.{differing}
use Rattle.word.proofs.separators.pulses_of.Goals as goal

pub returns : goal.returns
returns c =
    let b = c.bits.ensures in
    let a = c.bits-2.ensures in
    differing _ _ b.few a.few (holds _ (ap₂ kept b.cells a.cells ∙ c.requires)) ∙ ap₂ pulses b.cells a.cells
