-- `page::read_first` meets its contract: the check's refusals are its own, and the record of a page that passes is read.
-- Assumes nothing.
use mathlib.Core.Path.{refl}
use native.Mathlib.Omega.{arith}
use Rattle.word.specs.Word.{legal}
use Rattle.rows.specs.Page.{FirstRoundOf}
use Rattle.rows.proofs.Shapes.{sound_found, words_inside}
use Rattle.answer.proofs.Passing.{refused_as}
use Rattle.page.proofs.Headed.{all_words}
use Rattle.page.proofs.FirstAnswers.{first_passed, read_first, read_first_3, read_first_refused}
use Rattle.page.proofs.read_first.Goals as goal

pub returns-in_err-check_first : goal.returns-in_err-check_first
returns-in_err-check_first c =
    let told = read_first_refused c.shape_of-s.result c.args.page.now c.args.out.now _ _ c.in_err-check_first.ensures in
    rw (← c.shape_of-s.ensures, refused_as _ _ c.from_residual.ensures.1, told) (record { answer = refl; bytes = refl })

pub returns-then-out-s : goal.returns-then-out-s
returns-then-out-s c =
    let f : FirstRoundOf c.shape_of-s.result c.args.page.now = first_passed _ _ c.type_inv.page c.in_ok-check_first.ensures in
    let told = (read_first_3 c.shape_of-s.result c.args.page.now c.args.out.now 0 f.of_bytes).1 (f, c.if-out-s.true, refl) in
    rw (← c.shape_of-s.ensures, told) (record { answer = refl; bytes = refl })

pub read_words-requires : goal.read_words-requires
read_words-requires c =
    let found = sound_found _ _ c.shape_of-s.ensures in
    let f : FirstRoundOf c.shape_of-s.result c.args.page.now = first_passed _ _ c.type_inv.page c.in_ok-check_first.ensures in (
      omega (arith, words_inside found, f.sized),
      all_words _ legal _ f.words_pass,
      omega (arith, found.fours, c.if-out-s.false),
      omega (arith, found.few),
    )

pub returns : goal.returns
returns c =
    let f : FirstRoundOf c.shape_of-s.result c.args.page.now = first_passed _ _ c.type_inv.page c.in_ok-check_first.ensures in
    let told = (read_first c.shape_of-s.result c.args.page.now c.args.out.now 0 f.of_bytes).1 (f, c.if-out-s.false, refl) in
    rw (← c.shape_of-s.ensures, told) (record { answer = refl; bytes = c.read_words.ensures })
