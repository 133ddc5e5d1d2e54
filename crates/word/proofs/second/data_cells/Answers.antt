-- `word::second::data_cells` meets its contract: a word without neighbours has a data cell for each set cell but the last cell.
-- Assumes nothing.
use mathlib.Core.Path.{◌∙◌, ap}
use lib.ListN.{length}
use Rattle.word.specs.Word.{sparse}
use Rattle.word.specs.Fill.{read}
use Rattle.word.proofs.Counting.{count_read}
use Rattle.word.proofs.second.data_cells.Goals as goal

pub returns : goal.returns
returns c =
    let e = c.bits.ensures.cells in count_read _ c.bits.ensures.few (ap sparse e ∙ c.requires) ∙ ap (λ w. length (read w)) e
