-- The claim of specs/Claims.antt.
-- Assumes nothing.
use mathlib.Core.Bool.{cond}
use mathlib.Core.List.{List, [], ◌∷◌, ◌++◌}
use mathlib.Core.Path.{◌≡◌, refl, sym, ap, ◌∙◌}
use Prim.Native.Nat.{ℕ, ◌+◌}
use native.Mathlib.Omega.{arith}
use lib.Dec.{eqb}
use lib.IntN.{+ℤ_idl}
use Rattle.text.specs.Text.{ascii, digits, decimal, signed}
use Rattle.report.specs.Claims.{blank}
use Rattle.report.specs.Listing.{pieces_of}
use Rattle.report.specs.declared.Kind.{Kind}
use Rattle.report.specs.declared.Kind.TheVariants.{Blank, First, Filled, Second, Bad}
use Rattle.report.proofs.Deciding.{kind_not_sized}
use Rattle.report.proofs.Listings.{pieces_none, pieces_page, pieces_last, pieces_most, pieces_few}
use Rattle.report.proofs.Claims.{zero_page, blank_kind_lem, blank_sized, zero_kind, zero_first}
use Rattle.sheet.specs.declared.Tally.{Tally}
use Rattle.sheet.specs.Sheet.{no_pages, tallied, tally_from, tally_of, counts_of, sheet_line, sheet_of}
use Rattle.sheet.specs.Claims.{SheetRight, place, how_many, gains}
use Rattle.sheet.proofs.Tallying.{tally_more, counted_up, pages_counted, total_counted, gain_from, turns_tally_lem}

-- ---- the counts

-- each count goes up by 1 with a page of its kind, and by 0 with any other
blanks : (t : Tally) (k : Kind) → (tallied t k).blank ≡ t.blank + cond (eqb (place k) 0) 1 0
blanks t Blank = refl
blanks t (First n) = omega arith
blanks t (Filled n) = omega arith
blanks t (Second n) = omega arith
blanks t (Bad n) = omega arith

firsts : (t : Tally) (k : Kind) → (tallied t k).first ≡ t.first + cond (eqb (place k) 1) 1 0
firsts t Blank = omega arith
firsts t (First n) = refl
firsts t (Filled n) = omega arith
firsts t (Second n) = omega arith
firsts t (Bad n) = omega arith

filleds : (t : Tally) (k : Kind) → (tallied t k).filled ≡ t.filled + cond (eqb (place k) 2) 1 0
filleds t Blank = omega arith
filleds t (First n) = omega arith
filleds t (Filled n) = refl
filleds t (Second n) = omega arith
filleds t (Bad n) = omega arith

seconds : (t : Tally) (k : Kind) → (tallied t k).second ≡ t.second + cond (eqb (place k) 3) 1 0
seconds t Blank = omega arith
seconds t (First n) = omega arith
seconds t (Filled n) = omega arith
seconds t (Second n) = refl
seconds t (Bad n) = omega arith

bads : (t : Tally) (k : Kind) → (tallied t k).bad ≡ t.bad + cond (eqb (place k) 4) 1 0
bads t Blank = omega arith
bads t (First n) = omega arith
bads t (Filled n) = omega arith
bads t (Second n) = omega arith
bads t (Bad n) = refl

-- so from none it is the number of the pages of its kind
count_of : (p : ℕ) (count : Tally → ℕ) → ((t : Tally) (k : Kind) → count (tallied t k) ≡ count t + cond (eqb (place k) p) 1 0) → count no_pages ≡ 0
    → (ps : List (List ℕ)) → count (tally_of ps) ≡ how_many p ps
count_of p count step none ps = omega (arith, counted_up count (λ k. cond (eqb (place k) p) 1 0) step no_pages ps, none)

-- ---- the line

-- the tally of the two pages
two_pages : tally_of (pieces_of (blank ++ zero_page)) ≡ tallied (tallied no_pages Blank) (First 1012)
unfolding pieces_of tally_from
two_pages =
    ap tally_of (pieces_page _ blank zero_page blank_sized ∙ ap (λ (ps : List (List ℕ)). blank ∷ ps) (pieces_last _ zero_page (omega (arith, zero_first.sized)) (omega (arith, zero_first.sized))))
    ∙ rw (blank_kind_lem, zero_kind) refl

example : sheet_of (blank ++ zero_page) ≡ ascii "pages 2 blank 1 first 1 filled 0 second 0 bad 0 gain -640\n"
unfolding sheet_of sheet_line counts_of decimal digits signed
example = ap sheet_line two_pages ∙ refl

empty : sheet_of [] ≡ ascii "pages 0 blank 0 first 0 filled 0 second 0 bad 0 gain 0\n"
unfolding sheet_of sheet_line counts_of pieces_of tally_from decimal digits signed
empty = ap (λ (ps : List (List ℕ)). sheet_line (tally_of ps)) (pieces_none 4096) ∙ refl

pub sheet_right : SheetRight
unfolding sheet_of pieces_of sheet_line counts_of decimal digits signed
sheet_right = record {
  of_first_page = λ c. refl;
  of_filled_page = λ c. refl;
  second_page = λ n. refl;
  eighty = refl;
  blank_page = refl;
  bad_page = λ n. refl;
  pages = pages_counted;
  kinds = λ ps. (
    count_of 0 (λ t. t.blank) blanks refl ps,
    count_of 1 (λ t. t.first) firsts refl ps,
    count_of 2 (λ t. t.filled) filleds refl ps,
    count_of 3 (λ t. t.second) seconds refl ps,
    count_of 4 (λ t. t.bad) bads refl ps,
  );
  counts = λ ps. total_counted ps ∙ sym (pages_counted ps);
  gain = λ ps. gain_from no_pages ps ∙ +ℤ_idl (gains ps);
  one_more = tally_more;
  short_piece = λ n P l e m some h. tally_more n P l e m some (omega arith) ∙ ap (tallied (tally_of (pieces_of P))) (kind_not_sized l (omega arith));
  few = λ l. record { pieces = pieces_of l; few = pieces_few 4096 l; all = refl };
  most = λ n l h. ap (λ (ps : List (List ℕ)). sheet_line (tally_of ps)) (pieces_most 4096 n l h);
  turns = λ k buffer l h. turns_tally_lem 4096 k 0 no_pages buffer l h refl;
  example = example;
  places = refl;
  empty = empty;
}
