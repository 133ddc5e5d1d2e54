-- `receive::judge` meets its contract: before each turn the reader stands at a field. Assumes nothing.
use mathlib.Core.Path.{sym, ap, ◌∙◌}
use native.Mathlib.Omega.{arith}
use Rattle.answer.specs.Answer.{AnswerOf, result}
use Rattle.receive.specs.Read.{and_then, counted, Told}
use Rattle.answer.proofs.Passing.{refused_as}
use Rattle.receive.proofs.Walking.{stands_first, stands_refused, further, after_device, after_page, after_skipped, after_end_lem, told_end}
use Rattle.receive.proofs.judge.Goals as goal

pub loop-field-init : goal.loop-field-init
loop-field-init c =
    (_, stands_first _ c.requires)

pub returns-in_err-field : goal.returns-in_err-field
returns-in_err-field c =
    rw (refused_as _ _ c.from_residual.ensures.1)
    (ap (λ (a : AnswerOf Told). and_then a (λ (t : Told). result (counted t))) (stands_refused _ _ _ _ _ c.loop-field.invariant.1 _ _ (sym c.in_err-field.ensures)))

pub ended-requires : goal.ended-requires
ended-requires c =
    ((after_end_lem _ _ _ _ _ c.loop-field.invariant.1 _ _ (sym c.in_ok-field.ensures) c.in-End.is).1, c.loop-field.invariant.1.few)

pub returns-in-End : goal.returns-in-End
returns-in-End c =
    c.ended.ensures ∙ told_end _ _ _ _ _ c.loop-field.invariant.1 _ _ (sym c.in_ok-field.ensures) c.in-End.is

pub loop-field-smaller-in-Device : goal.loop-field-smaller-in-Device
loop-field-smaller-in-Device c =
    omega (arith, further _ _ _ _ _ c.loop-field.invariant.1 _ _ (sym c.in_ok-field.ensures))

pub loop-field-preserved-in-Device : goal.loop-field-preserved-in-Device
loop-field-preserved-in-Device c =
    (_, (after_device _ _ _ _ _ c.loop-field.invariant.1 _ _ (sym c.in_ok-field.ensures) _ c.in-Device.is).0)

pub loop-field-smaller-in-Page : goal.loop-field-smaller-in-Page
loop-field-smaller-in-Page c =
    omega (arith, further _ _ _ _ _ c.loop-field.invariant.1 _ _ (sym c.in_ok-field.ensures))

pub loop-field-preserved-in-Page : goal.loop-field-preserved-in-Page
loop-field-preserved-in-Page c =
    (_, (after_page _ _ _ _ _ c.loop-field.invariant.1 _ _ (sym c.in_ok-field.ensures) _ c.in-Page.is).after)

pub loop-field-smaller : goal.loop-field-smaller
loop-field-smaller c =
    omega (arith, further _ _ _ _ _ c.loop-field.invariant.1 _ _ (sym c.in_ok-field.ensures))

pub loop-field-preserved : goal.loop-field-preserved
loop-field-preserved c =
    (_, after_skipped _ _ _ _ _ c.loop-field.invariant.1 _ _ (sym c.in_ok-field.ensures) c.in-Skipped.is)
