-- `word::separators::is_filled` meets its contract: a word with neighbours is not filled, and one without is where it is full.
-- Assumes nothing.
use mathlib.Core.Path.{sym, ◌∙◌}
use borrow.Author.Tests.{not-true, not-false}
use Rattle.word.proofs.Formed.{filled_full, not_filled}
use Rattle.word.proofs.separators.is_filled.Goals as goal

pub returns-then-not-has_neighbours : goal.returns-then-not-has_neighbours
returns-then-not-has_neighbours c =
    c.is_full.ensures ∙ sym (filled_full _ (not-false _ (sym c.has_neighbours.ensures ∙ c.if-not-has_neighbours.true)))

pub returns-else-not-has_neighbours : goal.returns-else-not-has_neighbours
returns-else-not-has_neighbours c =
    rw c.if-not-has_neighbours.false (sym (not_filled _ (not-true _ (sym c.has_neighbours.ensures ∙ c.if-not-has_neighbours.false))))
