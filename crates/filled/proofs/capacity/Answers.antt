-- `filled::capacity` meets its contract: the length first, then by the state, for the page's own shape.
-- Assumes nothing.
use mathlib.Core.Path.{refl, ap}
use native.Mathlib.Omega.{arith}
use Rattle.answer.specs.Answer.{result}
use Rattle.word.specs.Word.{legal}
use Rattle.rows.proofs.Shapes.{sound_found, words_inside}
use Rattle.page.specs.Answer.{first_checks}
use Rattle.answer.proofs.Passing.{refused_as, same_result}
use Rattle.page.proofs.Headed.{all_words}
use Rattle.page.proofs.FirstAnswers.{first_passed}
use Rattle.filled.specs.Answer.{room_first}
use Rattle.filled.proofs.FilledAnswers.{as_filled, as_first, first_refused, capacity_1}
use Rattle.filled.proofs.capacity.Goals as goal

pub returns-then-page-s : goal.returns-then-page-s
returns-then-page-s c =
    rw (← c.shape_of-s.ensures, (capacity_1 c.shape_of-s.result c.args.page.now 0).1 (c.if-page-s.true, refl)) refl

pub returns-then-page-eq-STATE_FILLED : goal.returns-then-page-eq-STATE_FILLED
returns-then-page-eq-STATE_FILLED c =
    rw (← c.shape_of-s.ensures, as_filled c.shape_of-s.result c.args.page.now c.if-page-eq-STATE_FILLED.true) c.check_filled.ensures

pub returns-in_err-check_first : goal.returns-in_err-check_first
returns-in_err-check_first c =
    let told = first_refused _ _ _ _ c.shape_of-s.ensures c.if-page-eq-STATE_FILLED.false c.in_err-check_first.ensures in
    rw (refused_as _ _ c.from_residual.ensures.1) told

pub capacity_of-requires : goal.capacity_of-requires
capacity_of-requires c =
    let f = sound_found _ _ c.shape_of-s.ensures in
    let p = first_passed c.shape_of-s.result c.args.page.now c.type_inv.page c.in_ok-check_first.ensures in
    (omega (arith, words_inside f, p.sized), all_words _ legal _ p.words_pass, omega (arith, f.few))

pub returns : goal.returns
returns c =
    let s = c.shape_of-s.result in
    let P = c.args.page.now in
    let told = same_result (first_checks s P) 0 0 (room_first s P) c.in_ok-check_first.ensures in
    rw (← c.shape_of-s.ensures, as_first s P c.if-page-eq-STATE_FILLED.false, told) (ap result c.capacity_of.ensures)
