-- `word::capacity` meets its contract: decode's refusals are its own, and the data cells of a word that decode takes are counted after the
-- fill.
-- Assumes nothing.
use mathlib.Core.Path.{sym, ap, ◌∙◌}
use Rattle.answer.proofs.Passing.{refused_as}
use Rattle.answer.specs.Answer.{result}
use Rattle.word.specs.Fill.{fill}
use Rattle.word.proofs.Answers.{taken, given, word_taken, refused_again}
use Rattle.word.proofs.Measures.{filled_apart, filled_capacity}
use Rattle.word.proofs.capacity.Goals as goal

pub returns-in_err-legal : goal.returns-in_err-legal
returns-in_err-legal c =
    rw (refused_as _ _ c.from_residual.ensures.1) (refused_again _ _ _ _ _ c.in_err-legal.ensures)

pub data_cells-requires : goal.data_cells-requires
data_cells-requires c =
    let filled = c.fill_word-filled.ensures ∙ ap fill (given _ _ _ (sym c.in_ok-legal.ensures)) in
    filled_apart _ _ filled (taken _ _ _ (sym c.in_ok-legal.ensures))

pub returns : goal.returns
returns c =
    let filled = c.fill_word-filled.ensures ∙ ap fill (given _ _ _ (sym c.in_ok-legal.ensures)) in
    ap result (c.data_cells.ensures ∙ filled_capacity _ _ filled) ∙ sym (word_taken _ _ (taken _ _ _ (sym c.in_ok-legal.ensures)))
