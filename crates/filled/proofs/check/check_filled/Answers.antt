-- `filled::check::check_filled` meets its contract: what the header's check refuses it refuses, then it looks at the words, and where none
-- refuses the data cells that were counted are the page's.
-- Assumes nothing.
use mathlib.Core.Path.{sym}
use Prim.Native.Nat.{ℕ}
use native.Mathlib.Omega.{arith}
use Rattle.window.specs.Words.{page_words}
use Rattle.window.proofs.Words.{length_page_words, Words-page_words}
use Rattle.word.specs.Fill.{is_filled}
use Rattle.rows.specs.Page.{state_filled}
use Rattle.rows.proofs.SecondWords.{read_most}
use Rattle.page.specs.Answer.{header_checks}
use Rattle.answer.proofs.Passing.{refused_as, passed_on}
use Rattle.page.proofs.Headed.{header_passed, lowest_bad}
use Rattle.filled.specs.Answer.{filled_checks}
use Rattle.filled.proofs.FilledAnswers.{check_filled_refusals, check_filled_taken, counted}
use Rattle.filled.proofs.check.check_filled.Goals as goal

pub returns-in_err-check_header : goal.returns-in_err-check_header
unfolding filled_checks
returns-in_err-check_header c =
    let told = sym c.in_err-check_header.ensures in
    rw (refused_as _ _ c.from_residual.ensures.1) (passed_on {B = ℕ} (header_checks state_filled 0 c.args.s c.args.page.now) _ 0 _ _ told)

pub count_filled-found-requires : goal.count_filled-found-requires
count_filled-found-requires c =
    let headed = header_passed state_filled c.args.s c.args.page.now c.in_ok-check_header.ensures in omega (arith, headed.0)

pub returns-then-found-s : goal.returns-then-found-s
returns-then-found-s c =
    let headed = header_passed state_filled c.args.s c.args.page.now c.in_ok-check_header.ensures in
    sym (((check_filled_refusals _ _ _).seven _).1 (headed, lowest_bad _ is_filled _ _ c.count_filled-found.ensures.words c.if-found-s.true))

pub overflow_cast-result-2 : goal.overflow_cast-result-2
overflow_cast-result-2 c =
    let P = c.args.page.now in
    let n = c.args.s.words in
    let found = c.count_filled-found.ensures in
    let p = counted c.args.s P c.type_inv.page _ _ c.in_ok-check_header.ensures found.words found.cells c.if-found-s.false in
    omega (arith, p.1, p.0.sized, read_most (page_words P n) (Words-page_words P n (omega arith)), length_page_words P n)

pub returns : goal.returns
returns c =
    let found = c.count_filled-found.ensures in
    let p = counted c.args.s c.args.page.now c.type_inv.page _ _ c.in_ok-check_header.ensures found.words found.cells c.if-found-s.false in
    sym ((check_filled_taken _ _ _ _ p.0.of_bytes).1 p)
