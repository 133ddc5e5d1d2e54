-- `filled::fill_page` meets its contract: the check's refusals are its own; on a page that passes the state is set, then the words.
-- Assumes nothing.
use mathlib.Core.Path.{refl, sym, ap, ◌∙◌}
use native.Mathlib.Omega.{arith}
use lib.ListN.{length-set}
use Rattle.answer.specs.Answer.{result}
use Rattle.answer.proofs.Chains.{same_refusal}
use Rattle.rows.proofs.Shapes.{sound_found, words_inside}
use Rattle.page.specs.Answer.{first_checks}
use Rattle.answer.proofs.Passing.{refused_as, same_result}
use Rattle.page.proofs.FirstAnswers.{first_sized}
use Rattle.filled.specs.Answer.{pulses_of}
use Rattle.filled.proofs.Setting.{pulses_set, filled_set}
use Rattle.filled.proofs.fill_page.Goals as goal

pub returns-in_err-check_first : goal.returns-in_err-check_first
returns-in_err-check_first c =
    let s = c.shape_of-s.result in
    let P = c.args.page.now in
    let told = same_refusal (first_checks s P) 0 (pulses_of s P) _ _ (sym c.in_err-check_first.ensures) in
    rw (← c.shape_of-s.ensures, refused_as _ _ c.from_residual.ensures.1, told) (record { answer = refl; bytes = refl })

pub fill_words-requires : goal.fill_words-requires
fill_words-requires c =
    let f = sound_found _ _ c.shape_of-s.ensures in
    let l = first_sized c.shape_of-s.result c.args.page.now c.in_ok-check_first.ensures in
    (rw length-set (omega (arith, words_inside f, l)), omega (arith, f.few))

pub returns : goal.returns
returns c =
    let s = c.shape_of-s.result in
    let P = c.args.page.now in
    let f = sound_found _ _ c.shape_of-s.ensures in
    let l = first_sized s P c.in_ok-check_first.ensures in
    let told = same_result (first_checks s P) 0 0 (pulses_of s P) c.in_ok-check_first.ensures in
    rw (← c.shape_of-s.ensures, told) (record {
      answer = ap result (c.fill_words.ensures.pulses ∙ pulses_set s P);
      bytes = c.fill_words.ensures.bytes ∙ filled_set s P (omega (arith, l, f.inside));
    })
