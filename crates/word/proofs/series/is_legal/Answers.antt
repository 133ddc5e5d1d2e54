-- `word::series::is_legal` meets its contract: above the greatest legal word none is legal, and up to it those without neighbours.
-- Assumes nothing.
use mathlib.Core.Bool.{not, not-not}
use mathlib.Core.Path.{ap, ◌∙◌}
use native.Mathlib.Omega.{arith}
use borrow.Author.Tests.{lt-leb}
use Rattle.word.specs.Word.{sparse}
use Rattle.word.proofs.Order.{too_large, by_neighbours}
use Rattle.word.proofs.series.is_legal.Goals as goal

pub returns-else-word-le-GREATEST : goal.returns-else-word-le-GREATEST
returns-else-word-le-GREATEST c =
    lt-leb _ _ (omega arith) ∙ too_large _ (omega arith)

pub returns-then-word-le-GREATEST : goal.returns-then-word-le-GREATEST
returns-then-word-le-GREATEST c =
    ap not c.has_neighbours.ensures ∙ not-not _ ∙ ap sparse c.new.ensures ∙ by_neighbours _ (omega arith)
