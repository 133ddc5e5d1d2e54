-- `page::check::check_first` meets its contract: what the header's check refuses it refuses, then it looks at the words.
-- Assumes nothing.
use mathlib.Core.Path.{refl, sym}
use Prim.Native.Nat.{ℕ}
use native.Mathlib.Omega.{arith}
use Rattle.word.specs.Word.{legal}
use Rattle.rows.specs.Page.{state_first}
use Rattle.page.specs.Answer.{header_checks, first_checks}
use Rattle.answer.proofs.Passing.{refused_as, passed_on}
use Rattle.page.proofs.Headed.{header_passed, opened, lowest_bad, no_bad_word}
use Rattle.page.proofs.FirstAnswers.{check_refusals, check_taken}
use Rattle.page.proofs.check.check_first.Goals as goal

pub returns-in_err-check_header : goal.returns-in_err-check_header
unfolding first_checks
returns-in_err-check_header c =
    let told = sym c.in_err-check_header.ensures in
    rw (refused_as _ _ c.from_residual.ensures.1) (passed_on {B = ℕ} (header_checks state_first 0 c.args.s c.args.page.now) _ 0 0 _ told)

pub first_illegal-i-requires : goal.first_illegal-i-requires
first_illegal-i-requires c =
    let headed = header_passed state_first c.args.s c.args.page.now c.in_ok-check_header.ensures in omega (arith, headed.0)

pub returns-then-i-s : goal.returns-then-i-s
returns-then-i-s c =
    let headed = header_passed state_first c.args.s c.args.page.now c.in_ok-check_header.ensures in
    sym (((check_refusals _ _ 0).seven _).1 (headed, lowest_bad _ legal _ _ c.first_illegal-i.ensures c.if-i-s.true))

pub returns : goal.returns
returns c =
    let headed = header_passed state_first c.args.s c.args.page.now c.in_ok-check_header.ensures in
    let w = no_bad_word c.args.s.words legal c.args.page.now _ c.first_illegal-i.ensures c.if-i-s.false in
    let f = opened state_first _ _ legal (λ i. omega (arith, c.type_inv.page i)) headed w in
    sym ((check_taken _ _ 0 0 f.of_bytes).1 (f, refl))
