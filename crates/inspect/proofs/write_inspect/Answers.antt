-- `inspect::write_inspect` meets its contract: what the check refuses it refuses; the words are walked aside, half by half, and where their
-- walks take all the record's bits, they replace the page's. All for the page's own shape. Assumes nothing.
use mathlib.Core.Path.{refl, ap, ◌∙◌}
use Prim.Native.Nat.{◌-◌, ◌≤◌}
use native.Mathlib.Omega.{arith}
use borrow.Rule.Slice.PartMut.{same_len_mid}
use lib.ListN.{length, length-drop}
use Rattle.window.specs.Words.{page_words}
use Rattle.word.specs.Word.{legal}
use Rattle.rows.specs.Page.{lowest, FirstRoundOf}
use Rattle.answer.proofs.Passing.{refused_as}
use Rattle.page.proofs.FirstAnswers.{first_passed}
use Rattle.inspect.proofs.Halves.{halved_found, whole, lent_is, lent_length, front_passed, back_passed}
use Rattle.inspect.proofs.Aside.{Walked, length_aside, write_refused, half_few, half_inside, all_walked, taken_few, write_long, write_done, page_done}
use Rattle.inspect.proofs.write_inspect.Goals.{In_ok-check_first, After-walk_words-taken}
use Rattle.inspect.proofs.write_inspect.Goals as goal

-- what is known once the check has passed, and once all words are walked
passed : (c : In_ok-check_first) → FirstRoundOf c.shape_of-s.result c.args.page.now
passed c = first_passed _ _ (λ i. grind arith) c.in_ok-check_first.ensures

large : (c : In_ok-check_first) → 256 ≤ length c.args.page.now
large c = whole (halved_found _ _ c.shape_of-s.ensures) _ (passed c).sized

walked : (c : After-walk_words-taken)
    → Walked c.shape_of-s.result c.args.page.now c.args.second.now c.walk_words-half.result c.walk_words-taken.result
walked c =
    let p = first_passed _ _ (λ i. grind arith) c.in_ok-check_first.ensures in
    all_walked (halved_found _ _ c.shape_of-s.ensures) p _ _ c.walk_words-half.ensures.taken _ c.walk_words-taken.ensures.taken

pub returns-in_err-check_first : goal.returns-in_err-check_first
returns-in_err-check_first c =
    let told = write_refused c.shape_of-s.result c.args.page.now c.args.second.now _ _ c.in_err-check_first.ensures in
    rw (← c.shape_of-s.ensures, refused_as _ _ c.from_residual.ensures.1, told) (record { answer = refl; bytes = refl })

pub walk_words-half-requires : goal.walk_words-half-requires
walk_words-half-requires c =
    let h = halved_found _ _ c.shape_of-s.ensures in
    let p = passed (goal.at.walk_words-half-requires c).In_ok-check_first in
    (omega (arith, whole h _ p.sized), omega arith, front_passed _ h _ legal p.words_pass, omega arith, omega arith, omega arith)

pub walk_words-taken-requires : goal.walk_words-taken-requires
walk_words-taken-requires c =
    let h = halved_found _ _ c.shape_of-s.ensures in
    let p = passed (goal.at.walk_words-taken-requires c).In_ok-check_first in
    let u = c.walk_words-half.ensures.taken in (
      lent_length h _ p.sized,
      omega (arith, h.sound.few),
      ap (λ q. lowest legal (page_words q (c.shape_of-s.result.words - 44))) (lent_is h _ p.sized) ∙ back_passed _ h _ legal p.words_pass,
      omega (arith, half_inside h p _ _ u),
      omega (arith, half_few h p _ _ u),
      omega (arith, h.sound.few),
    )

pub overflow_cast-result : goal.overflow_cast-result
overflow_cast-result c = let w = walked (goal.at.overflow_cast-result c).After-walk_words-taken in omega (arith, taken_few w)

pub returns-then-taken-second : goal.returns-then-taken-second
returns-then-taken-second c =
    let w = walked (goal.at.returns-then-taken-second c).After-walk_words-taken in
    rw (← c.shape_of-s.ensures, write_long w c.if-taken-second.true) (record { answer = refl; bytes = refl })

pub overflow_sub-s-2 : goal.overflow_sub-s-2
overflow_sub-s-2 c = let h = halved_found _ _ c.shape_of-s.ensures in omega (arith, h)

pub copy_eights-requires : goal.copy_eights-requires
copy_eights-requires c =
    let h = halved_found _ _ c.shape_of-s.ensures in
    let p = passed (goal.at.copy_eights-requires c).In_ok-check_first in (
      omega (arith, ap length (lent_is h _ p.sized), length-drop 253 c.args.page.now, p.sized, h),
      omega (arith, ap length c.walk_words-taken.ensures.bytes ∙ length_aside _, h.sound.small),
      omega (arith, h.sound.small),
    )

pub copy_eights-requires-2 : goal.copy_eights-requires-2
copy_eights-requires-2 c =
    let P = c.args.page.now in (
      omega (arith, same_len_mid 253 (length P - 253) P _ c.copy_eights.auto.to, large (goal.at.copy_eights-requires-2 c).In_ok-check_first),
      omega (arith, ap length c.walk_words-half.ensures.bytes ∙ length_aside _),
      omega arith,
    )

pub put_header-requires : goal.put_header-requires
put_header-requires c =
    let P = c.args.page.now in
    let n = large (goal.at.put_header-requires c).In_ok-check_first in
    let few = taken_few (walked (goal.at.put_header-requires c).After-walk_words-taken) in (
      omega (arith, c.copy_eights-2.auto.to, same_len_mid 253 (length P - 253) P _ c.copy_eights.auto.to, n),
      omega (arith, c.if-taken-second.false, few),
    )

pub returns : goal.returns
returns c =
    let w = walked (goal.at.returns c).After-walk_words-taken in
    let u = c.walk_words-half.ensures in
    let v = c.walk_words-taken.ensures in
    rw (← c.shape_of-s.ensures, write_done w c.if-taken-second.false) (record {
      answer = refl;
      bytes = c.put_header.ensures ∙ page_done w _ _ _ _ u.bytes v.bytes c.copy_eights.ensures c.copy_eights-2.ensures c.if-taken-second.false;
    })
