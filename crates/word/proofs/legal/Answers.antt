-- `word::legal` meets its contract: decode's refusals are its own, and the word of a number that decode takes has its cells.
-- Assumes nothing.
use mathlib.Core.Path.{sym, ap, ◌∙◌}
use Rattle.answer.proofs.Passing.{refused_as}
use Rattle.answer.specs.Answer.{result}
use Rattle.word.proofs.Answers.{taken, word_taken, refused_again}
use Rattle.word.proofs.legal.Goals as goal

pub returns-in_err-decode : goal.returns-in_err-decode
returns-in_err-decode c =
    rw (refused_as _ _ c.from_residual.ensures.1) (refused_again _ _ _ _ _ c.in_err-decode.ensures)

pub new-requires : goal.new-requires
new-requires c =
    (taken _ _ _ (sym c.in_ok-decode.ensures)).small

pub returns : goal.returns
returns c =
    ap result c.new.ensures ∙ sym (word_taken _ _ (taken _ _ _ (sym c.in_ok-decode.ensures)))
