-- `receive::read_file` meets its contract: the start, then the fields, then the output's length, then the copy. `grind` carries what `judge`
-- ensures to where its result is used, so that an edit in between is refused by its meaning. Assumes nothing.
use native.Mathlib.Omega.{arith}
use Rattle.std.proofs.lemmas.Grind.{common_steps}
use Rattle.answer.specs.Answer.{refusal_number, refusal_index}
use Rattle.answer.proofs.Chains.{given_both}
use Rattle.answer.proofs.Passing.{refused_as}
use Rattle.receive.proofs.Copying.{counts, told_refused, told_short, told_done, start_refused}
use Rattle.receive.proofs.read_file.Goals as goal

pub returns-then-not-starts_with : goal.returns-then-not-starts_with
returns-then-not-starts_with c =
    given_both (start_refused _ _ c.if-not-starts_with.ensures.value) λ told left. record { answer = told; bytes = left }

pub returns-in_err-contents : goal.returns-in_err-contents
returns-in_err-contents c =
    let e = c.in_err-contents.field-0.0 in
    given_both (told_refused _ _ c.if-not-starts_with.ensures.value (refusal_number e) (refusal_index e) (grind (arith, common_steps, c.judge.ensures))) λ told left. rw (refused_as _ _ c.from_residual.ensures.1) (record { answer = told; bytes = left })

pub returns-then-out-n : goal.returns-then-out-n
returns-then-out-n c =
    let d = c.in_ok-contents.contents in
    given_both (told_short _ _ c.if-not-starts_with.ensures.value d.device d.pages (grind (arith, common_steps, c.judge.ensures)) c.if-out-n.true) λ told left. record { answer = told; bytes = left }

pub copy_pages-requires : goal.copy_pages-requires
copy_pages-requires c =
    let d = c.in_ok-contents.contents in
    (c.starts_with.ensures.bound c.if-not-starts_with.false, omega (arith, c.if-out-n.false), counts _ c.args.out.now c.if-not-starts_with.ensures.value d.device d.pages (grind (arith, common_steps, c.judge.ensures)))

pub returns : goal.returns
returns c =
    let d = c.in_ok-contents.contents in
    given_both (told_done _ _ c.if-not-starts_with.ensures.value d.device d.pages _ (grind (arith, common_steps, c.judge.ensures)) c.if-out-n.false c.copy_pages.ensures) λ told left. record { answer = told; bytes = left }
