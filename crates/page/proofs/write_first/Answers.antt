-- `page::write_first` meets its contract: each test answers as the definition does for the page's own shape, in its order; the state is set, then
-- the words.
-- Assumes nothing.
use mathlib.Core.Bool.{not}
use mathlib.Core.Path.{refl, ap, ◌∙◌}
use native.Mathlib.Omega.{arith}
use lib.ListN.{length-set}
use Rattle.rows.proofs.Shapes.{sound_found, words_inside}
use Rattle.page.proofs.FirstAnswers.{write_first, write_first_1, write_first_2, write_first_4}
use Rattle.page.proofs.Writing.{not_blank_page, blank_page, first_set}
use Rattle.page.proofs.write_first.Goals as goal

pub returns-then-page-s : goal.returns-then-page-s
returns-then-page-s c =
    let told = (write_first_1 c.shape_of-s.result c.args.page.now c.args.first.now 0).1 (c.if-page-s.true, refl) in
    rw (← c.shape_of-s.ensures, told) (record { answer = refl; bytes = refl })

pub returns-then-first-s : goal.returns-then-first-s
returns-then-first-s c =
    let told = (write_first_2 c.shape_of-s.result c.args.page.now c.args.first.now 0).1 (c.if-page-s.false, c.if-first-s.true, refl) in
    rw (← c.shape_of-s.ensures, told) (record { answer = refl; bytes = refl })

pub zero_from-requires : goal.zero_from-requires
zero_from-requires c = let f = sound_found _ _ c.shape_of-s.ensures in (omega arith, omega (arith, f.small, c.if-page-s.false))

pub returns-then-not-zero_from : goal.returns-then-not-zero_from
returns-then-not-zero_from c =
    let told = (write_first_4 c.shape_of-s.result c.args.page.now c.args.first.now 0).1
    (c.if-page-s.false, c.if-first-s.false, not_blank_page _ _ _ c.zero_from.ensures (ap not c.if-not-zero_from.true), refl) in
    rw (← c.shape_of-s.ensures, told) (record { answer = refl; bytes = refl })

pub write_words-requires : goal.write_words-requires
write_words-requires c =
    let f = sound_found _ _ c.shape_of-s.ensures in (
      omega (arith, words_inside f, c.if-page-s.false, length-set c.args.page.now 0 1),
      omega (arith, f.fours, c.if-first-s.false),
      omega (arith, f.few),
    )

pub returns : goal.returns
returns c =
    let f = sound_found _ _ c.shape_of-s.ensures in
    let blank = blank_page _ _ _ c.if-page-s.false c.zero_from.ensures (ap not c.if-not-zero_from.false) in
    let told = (write_first c.shape_of-s.result c.args.page.now c.args.first.now 0).1 (blank, c.if-first-s.false, refl) in
    rw (← c.shape_of-s.ensures, told) (record {
      answer = refl;
      bytes = c.write_words.ensures ∙ first_set _ _ _ (omega (arith, f.inside, c.if-page-s.false));
    })
