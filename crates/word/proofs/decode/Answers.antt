-- `word::decode` meets its contract, at each of its three returns.
-- Assumes nothing.
use mathlib.Core.Path.{sym, ap, ◌∙◌}
use native.Mathlib.Omega.{arith}
use borrow.Author.Tests.{not-false, not-true}
use Rattle.cells.proofs.Tests.{holds}
use Rattle.word.specs.Word.{sum, sparse}
use Rattle.word.proofs.Answers.{high_refused, neighbours_refused, summed}
use Rattle.word.proofs.decode.Goals as goal

pub returns-then-word-ge70368744177664 : goal.returns-then-word-ge70368744177664
returns-then-word-ge70368744177664 c =
    sym (high_refused _ _ (omega arith))

pub returns-then-has_neighbours : goal.returns-then-has_neighbours
returns-then-has_neighbours c =
    let near = not-true _ (sym c.has_neighbours.ensures ∙ c.if-has_neighbours.true) in
    sym (neighbours_refused _ _ c.if-word-ge70368744177664.false (sym (ap sparse c.new-word.ensures) ∙ near))

pub returns : goal.returns
returns c =
    let apart = not-false _ (sym c.has_neighbours.ensures ∙ c.if-has_neighbours.false) in
    rw c.or.ensures (
    summed _ _ _ c.if-word-ge70368744177664.false (holds _ (sym (ap sparse c.new-word.ensures) ∙ apart))
    (c.sum-total.ensures ∙ ap sum c.new-word.ensures) c.try_from.ensures)
