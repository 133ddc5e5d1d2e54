-- `word::series::has_neighbours` meets its contract: the test of the digits is the definition's.
-- Assumes nothing.
use mathlib.Core.Bool.{not}
use mathlib.Core.Path.{ap, ◌∙◌}
use Rattle.word.specs.Word.{sparse}
use Rattle.word.proofs.Neighbours.{sparse_test}
use Rattle.word.proofs.series.has_neighbours.Goals as goal

pub returns : goal.returns
returns c =
    ap not (sparse_test _ c.bits-bits.ensures.few ∙ ap sparse c.bits-bits.ensures.cells)
