-- `word::fill` meets its contract: decode's refusals are its own, and a word that decode takes is filled and its pulses counted.
-- Assumes nothing.
use mathlib.Core.Path.{sym, ap, ap₂, ◌∙◌}
use Prim.Native.Nat.{ℕ}
use Rattle.answer.proofs.Passing.{refused_as}
use Rattle.cells.specs.Cells.{number}
use Rattle.answer.specs.Answer.{result}
use Rattle.word.specs.Fill.{fill, fill_pulses}
use Rattle.word.proofs.Answers.{taken, given, word_taken, refused_again}
use Rattle.word.proofs.Pulses.{fill_kept, pulses_filled}
use Rattle.word.proofs.fill.Goals as goal

pub returns-in_err-first : goal.returns-in_err-first
returns-in_err-first c =
    rw (refused_as _ _ c.from_residual.ensures.1) (refused_again _ _ _ _ _ c.in_err-first.ensures)

pub pulses_of-requires : goal.pulses_of-requires
pulses_of-requires c =
    fill_kept _ _ c.fill_word-filled.ensures

pub returns : goal.returns
returns c =
    let first = given _ _ _ (sym c.in_ok-first.ensures) in
    let filled = c.bits.ensures.number ∙ ap number (c.fill_word-filled.ensures ∙ ap fill first) in
    let pulses = c.pulses_of.ensures ∙ pulses_filled _ _ c.fill_word-filled.ensures ∙ ap fill_pulses first in
    ap₂ (λ (f p : ℕ). result (f, p)) filled pulses ∙ sym (word_taken _ _ (taken _ _ _ (sym c.in_ok-first.ensures)))
