-- The claims of specs/Claims.antt.
-- Assumes nothing.
use mathlib.Core.Bool.{true}
use mathlib.Core.List.{List, [], ◌∷◌, ◌++◌}
use mathlib.Core.Logic.{◌↔◌, ◌⊎◌, inl, inr, ⊎_elim}
use mathlib.Core.Path.{◌≡◌, refl, sym, ap, ◌∙◌, subst}
use Prim.Native.Nat.{ℕ, suc, ◌≤◌}
use native.Mathlib.Omega.{arith}
use borrow.Author.Tests.{le-ltb}
use lib.Dec.{T, ltb}
use lib.ListN.{length, replicate}
use Rattle.cells.specs.Cells.{first, number, bit, cells}
use Rattle.cells.specs.Bytes.{bits, Bytes}
use Rattle.text.specs.Text.{ascii, digits, decimal}
use Rattle.answer.specs.Answer.{Answer, result, refusal, among}
use Rattle.answer.proofs.Chains.{last_passed, same_refusal, among_others}
use Rattle.window.specs.Words.{page_words}
use Rattle.word.specs.Word.{series_from, weight, zeckendorf}
use Rattle.word.specs.Fill.{set_or_end, fill_from, fill, read_from, read, capacity}
use Rattle.rows.specs.declared.shape.Shape.{Shape}
use Rattle.rows.specs.Page.{state, record_length, blank_of, first_words, first_page, sum_over, capacity_all, page256, shape_of, FirstRoundOf, FilledOf}
use Rattle.rows.specs.Code.{Code, fill_code, longest, SecondRoundOf}
use Rattle.rows.proofs.Shapes.{sound256}
use Rattle.page.specs.Terms.{SizedOf}
use Rattle.page.specs.Answer.{first_checks, read_first_checks, read_first_answer, read_answer}
use Rattle.filled.specs.Answer.{page_capacity_answer}
use Rattle.filled.proofs.FilledAnswers.{as_first}
use Rattle.second.specs.Answer.{read_second_answer}
use Rattle.inspect.specs.Rows.{inspect_code}
use Rattle.inspect.specs.Answer.{read_inspect_answer}
use Rattle.demands.specs.Demands.{data_cells_of, filled_cells_of, ReaderOf}
use Rattle.demands.proofs.Demands.{demand1, demand3}
use Rattle.demands.proofs.FirstPages.{first_written, words_written}
use Rattle.report.specs.Kinds.{kind_by, kind_of}
use Rattle.report.specs.Lines.{line_of}
use Rattle.report.specs.Listing.{pieces_of, lines_from, listing_of}
use Rattle.report.specs.Claims.{blank, Sized, FirstRound, FilledPage, SecondRound, data_cells, filled_cells, KindsExact, LinesRight, ListingRight}
use Rattle.report.proofs.Deciding.{kind_not_sized, kind_00, kind_01, kind_03, kind_07, kind_09, kind_unknown, WhyBad, not_sized, not_blank, unknown, open_bad, second_bad, inspect_bad, blank_or_bad, own, kind_why, reader_fits, reader_among, bad_among}
use Rattle.report.proofs.Listings.{pieces_none, pieces_most, listing_page, listing_last, turns_listing}
use Rattle.report.specs.declared.Kind.{Kind}
use Rattle.report.specs.declared.Kind.TheVariants.{Blank, First, Filled, Second, Bad}

-- ---- kinds

-- the blank page
pub blank_sized : Sized blank
unfolding blank_of
blank_sized = refl

pub blank_kind_lem : kind_of blank ≡ Blank
unfolding blank_of
blank_kind_lem = kind_00 blank blank_sized refl ∙ ⊎_elim (λ h. h.1) (λ h. absurd (h.0 refl)) (blank_or_bad blank)

-- page capacity and read second hold a piece of 256 bytes to that page
own_sized : (P : List ℕ) → Sized P → SizedOf (shape_of P) P
own_sized P z = rw (own P z) z

own_capacity : (P : List ℕ) (c : ℕ) → Bytes P → Sized P
    → (page_capacity_answer P ≡ result c) ↔ ((FirstRound P × (c ≡ data_cells P)) ⊎ (FilledPage P × (c ≡ filled_cells P)))
own_capacity P c b z =
    subst
    (λ (s : Shape). (page_capacity_answer P ≡ result c) ↔ ((FirstRoundOf s P × (c ≡ data_cells_of s P)) ⊎ (FilledOf s P × (c ≡ filled_cells_of s P))))
    (own P z) (demand1.page_capacity P c b)

-- by either code
own_read : (c : Code) → ReaderOf c → (P out : List ℕ) (n : ℕ) → Bytes P → Sized P
    → (read_answer c P out ≡ result n) ↔ (SecondRound c P × (n ≡ record_length P) × (n ≤ length out))
own_read c r P out n b z =
    subst (λ (s : Shape). (read_answer c P out ≡ result n) ↔ (SecondRoundOf c s P × (n ≡ record_length P) × (n ≤ length out))) (own P z) (r.accepted P out n b)

-- `first` is what page capacity accepts
of_first_page : (P : List ℕ) (c : ℕ) → Bytes P → (kind_of P ≡ First c) ↔ (FirstRound P × (c ≡ data_cells P))
of_first_page P c b = (
  λ e.
      let w = kind_why P (First c) e in
      ⊎_elim (λ h. h) (λ h. absurd (omega (arith, w.1, h.0.in_state))) ((own_capacity P c b w.0).0 w.2),
  λ h. kind_01 P h.0.sized h.0.in_state ∙ ap (kind_by First) ((own_capacity P c b h.0.sized).1 (inl h)),
)

-- and `filled` too
of_filled_page : (P : List ℕ) (c : ℕ) → Bytes P → (kind_of P ≡ Filled c) ↔ (FilledPage P × (c ≡ filled_cells P))
of_filled_page P c b = (
  λ e.
      let w = kind_why P (Filled c) e in
      ⊎_elim (λ h. absurd (omega (arith, w.1, h.0.in_state))) (λ h. h) ((own_capacity P c b w.0).0 w.2),
  λ h. kind_03 P h.0.sized h.0.in_state ∙ ap (kind_by Filled) ((own_capacity P c b h.0.sized).1 (inr h)),
)

-- `second` is what the reader of either code accepts, since every record fits its output
second_page : (P : List ℕ) (n : ℕ) → Bytes P → (kind_of P ≡ Second n) ↔ ((SecondRound fill_code P ⊎ SecondRound inspect_code P) × (n ≡ record_length P))
unfolding blank_of
second_page P n b = (
  λ e.
      let w = kind_why P (Second n) e in
      ⊎_elim
      (λ a. let r = (own_read fill_code demand1.read_second P (blank_of 126) n b w.0).0 a in (inl r.0, r.1))
      (λ a. let r = (own_read inspect_code demand1.read_inspect P (blank_of 247) n b w.0).0 a in (inr r.0, r.1))
      w.1,
  λ h. ⊎_elim (by_fill h.1) (by_walks h.1) h.0,
)
  where
    by_fill : n ≡ record_length P → SecondRound fill_code P → kind_of P ≡ Second n
    by_fill e f =
        kind_07 P f.sized f.in_state
        ∙ ap (kind_by Second) ((own_read fill_code demand1.read_second P (blank_of 126) n b f.sized).1 (f, e, omega (arith, f.length_most)))

    by_walks : n ≡ record_length P → SecondRound inspect_code P → kind_of P ≡ Second n
    by_walks e f =
        kind_09 P f.sized f.in_state
        ∙ ap (kind_by Second) ((own_read inspect_code demand1.read_inspect P (blank_of 247) n b f.sized).1 (f, e, omega (arith, f.length_most)))

-- either reader refuses by 1 only what is not sized
why_1 : (P : List ℕ) → WhyBad P 1 → ¬ Sized P
why_1 P (not_sized _ h) = h
why_1 P (not_blank e _ _ _) = absurd (omega arith)
why_1 P (unknown e _ _ _ _ _ _) = absurd (omega arith)
why_1 P (open_bad i z _ a) = absurd (((demand1.page_capacity_1 P i).0 a).0 (own_sized P z))
why_1 P (second_bad i z _ a) = absurd (((demand1.read_second.refused_1 P (blank_of 126) i).0 a).0 (own_sized P z))
why_1 P (inspect_bad i z _ a) = absurd (((demand1.read_inspect.refused_1 P (blank_of 247) i).0 a).0 (own_sized P z))

-- neither refuses by 4
why_4 : (P : List ℕ) → WhyBad P 4 → Sized P × (state P ≡ 0) × ¬ (P ≡ blank)
unfolding among
why_4 P (not_sized e _) = absurd (omega arith)
why_4 P (not_blank _ z s h) = (z, s, h)
why_4 P (unknown e _ _ _ _ _ _) = absurd (omega arith)
why_4 P (open_bad i _ _ a) = absurd ((demand1.page_capacity_by P).listed 4 i a)
why_4 P (second_bad i _ _ a) = absurd ((demand1.read_second.refused_by P (blank_of 126)).listed 4 i a)
why_4 P (inspect_bad i _ _ a) = absurd ((demand1.read_inspect.refused_by P (blank_of 247)).listed 4 i a)

-- neither refuses by 5 a page in its own state
why_5 : (P : List ℕ) → WhyBad P 5 → Sized P × ¬ (state P ≡ 0) × ¬ (state P ≡ 1) × ¬ (state P ≡ 3) × ¬ (state P ≡ 7) × ¬ (state P ≡ 9)
why_5 P (not_sized e _) = absurd (omega arith)
why_5 P (not_blank e _ _ _) = absurd (omega arith)
why_5 P (unknown _ z s0 s1 s3 s7 s9) = (z, s0, s1, s3, s7, s9)
why_5 P (open_bad i _ s a) = let h = (demand1.page_capacity_5 P i).0 a in absurd (⊎_elim h.1 h.2 s)
why_5 P (second_bad i _ s a) = absurd (((demand1.read_second.refused_5 P (blank_of 126) i).0 a).1 s)
why_5 P (inspect_bad i _ s a) = absurd (((demand1.read_inspect.refused_5 P (blank_of 247) i).0 a).1 s)

-- state 00 with another byte set
bad_4 : (P : List ℕ) → Sized P × (state P ≡ 0) × ¬ (P ≡ blank) → kind_of P ≡ Bad 4
bad_4 P h = kind_00 P h.0 h.1 ∙ ⊎_elim (λ b. absurd (h.2 b.0)) (λ b. b.1) (blank_or_bad P)

-- a refusal makes the page bad, and nothing else does
refused_bad : (kind : ℕ → Kind) (a : Answer) (n : ℕ) → ((m : ℕ) → ¬ (kind m ≡ Bad n)) → (kind_by kind a ≡ Bad n) ↔ ((i : ℕ) × (a ≡ refusal n i))
refused_bad kind (result m) n other = (λ e. absurd (other m e), λ h. let e = h.1 in let z : ◌≡◌ {A = ℕ} 0 1 = cc in absurd (omega arith))
refused_bad kind (refusal m i) n other = (
  λ e. let same : m ≡ n = cc in (i, ap (λ (k : ℕ). refusal k i) same),
  λ h. let e = h.1 in let same : m ≡ n = cc in ap Bad same,
)

first_refused : (P : List ℕ) (n : ℕ) → Sized P → state P ≡ 1 → (kind_of P ≡ Bad n) ↔ ((i : ℕ) × (page_capacity_answer P ≡ refusal n i))
first_refused P n z s =
    let r = refused_bad First (page_capacity_answer P) n (λ m e. let z : ◌≡◌ {A = ℕ} 0 1 = cc in omega arith) in
    (λ e. r.0 (sym (kind_01 P z s) ∙ e), λ h. kind_01 P z s ∙ r.1 h)

filled_refused : (P : List ℕ) (n : ℕ) → Sized P → state P ≡ 3 → (kind_of P ≡ Bad n) ↔ ((i : ℕ) × (page_capacity_answer P ≡ refusal n i))
filled_refused P n z s =
    let r = refused_bad Filled (page_capacity_answer P) n (λ m e. let z : ◌≡◌ {A = ℕ} 0 1 = cc in omega arith) in
    (λ e. r.0 (sym (kind_03 P z s) ∙ e), λ h. kind_03 P z s ∙ r.1 h)

-- by 1 and by 5 it refuses no page that is sized and in state 03
filled_6_or_7 : (P : List ℕ) (n : ℕ) → Sized P → state P ≡ 3 → kind_of P ≡ Bad n → T (among n (6 ∷ 7 ∷ []))
filled_6_or_7 P n z s e =
    let h = (filled_refused P n z s).0 e in
    let by : (k : ℕ) → n ≡ k → page_capacity_answer P ≡ refusal k h.0 = λ k q. h.1 ∙ ap (λ (j : ℕ). refusal j h.0) q in
    among_others n 5 _ (λ q. ((demand1.page_capacity_5 P h.0).0 (by 5 q)).2 s)
    (among_others n 1 _ (λ q. ((demand1.page_capacity_1 P h.0).0 (by 1 q)).0 (own_sized P z)) ((demand1.page_capacity_by P).listed n h.0 h.1))

-- read first refuses alike with any output that the record fits
first_refused_as_read : (P out : List ℕ) (n : ℕ) → Sized P → state P ≡ 1 → 176 ≤ length out
    → (kind_of P ≡ Bad n) ↔ ((i : ℕ) × (read_first_answer P out ≡ refusal n i))
unfolding read_first_checks
first_refused_as_read P out n z s l =
    let cs = first_checks (shape_of P) P in
    let k = (shape_of P).first in
    let fits = last_passed {A = ℕ} cs (ltb (length out) k) 3 0 0 (le-ltb (length out) k (omega (arith, l, ap (λ (s : Shape). s.first) (own P z)))) in
    let r = first_refused P n z s in
    let f = as_first (shape_of P) P (λ e. absurd (omega (arith, s, e))) in (
      λ e. let h = r.0 e in (h.0, fits ∙ same_refusal cs _ 0 n h.0 (sym f ∙ h.1)),
      λ h. r.1 (h.0, f ∙ same_refusal cs 0 _ n h.0 (sym fits ∙ h.1)),
    )

-- read second refuses alike with any output that every record fits
second_refused : (P out : List ℕ) (n : ℕ) → Sized P → state P ≡ 7 → 126 ≤ length out
    → (kind_of P ≡ Bad n) ↔ ((i : ℕ) × (read_second_answer P out ≡ refusal n i))
unfolding blank_of
second_refused P out n z s l =
    let r = refused_bad Second (read_second_answer P out) n (λ m e. let z : ◌≡◌ {A = ℕ} 0 1 = cc in omega arith) in
    let k = kind_07 P z s ∙ ap (kind_by Second) (reader_fits fill_code P (blank_of 126) (own P z) (omega arith) ∙ sym (reader_fits fill_code P out (own P z) l)) in
    (λ e. r.0 (sym k ∙ e), λ h. k ∙ r.1 h)

-- and so does read Inspect
inspect_refused : (P out : List ℕ) (n : ℕ) → Sized P → state P ≡ 9 → 247 ≤ length out
    → (kind_of P ≡ Bad n) ↔ ((i : ℕ) × (read_inspect_answer P out ≡ refusal n i))
unfolding blank_of
inspect_refused P out n z s l =
    let r = refused_bad Second (read_inspect_answer P out) n (λ m e. let z : ◌≡◌ {A = ℕ} 0 1 = cc in omega arith) in
    let k = kind_09 P z s ∙ ap (kind_by Second) (reader_fits inspect_code P (blank_of 247) (own P z) (omega arith) ∙ sym (reader_fits inspect_code P out (own P z) l)) in
    (λ e. r.0 (sym k ∙ e), λ h. k ∙ r.1 h)

-- by 1 and by 5 neither refuses a page that is sized and in its state
reader_6_7_or_9 : (c : Code) → ReaderOf c → (P out : List ℕ) (n i : ℕ) → Sized P → state P ≡ c.into
    → longest c page256 ≤ length out → read_answer c P out ≡ refusal n i → T (among n (6 ∷ 7 ∷ 9 ∷ []))
reader_6_7_or_9 c r P out n i z s l a =
    let by : (k : ℕ) → n ≡ k → read_answer c P out ≡ refusal k i = λ k q. a ∙ ap (λ (j : ℕ). refusal j i) q in
    among_others n 5 _ (λ q. ((r.refused_5 P out i).0 (by 5 q)).1 s)
    (among_others n 1 _ (λ q. ((r.refused_1 P out i).0 (by 1 q)).0 (own_sized P z)) (reader_among c P out (own P z) l n i a))

second_6_7_or_9 : (P : List ℕ) (n : ℕ) → Sized P → (state P ≡ 7) ⊎ (state P ≡ 9) → kind_of P ≡ Bad n → T (among n (6 ∷ 7 ∷ 9 ∷ []))
unfolding blank_of
second_6_7_or_9 P n z s e =
    ⊎_elim
    (λ t.
    let h = (second_refused P (blank_of 126) n z t (omega arith)).0 e in
    reader_6_7_or_9 fill_code demand1.read_second P (blank_of 126) n h.0 z t (omega arith) h.1)
    (λ t.
    let h = (inspect_refused P (blank_of 247) n z t (omega arith)).0 e in
    reader_6_7_or_9 inspect_code demand1.read_inspect P (blank_of 247) n h.0 z t (omega arith) h.1)
    s

pub kinds_exact : KindsExact
kinds_exact = record {
  blank_page = λ P. (kind_why P Blank, λ e. ap kind_of e ∙ blank_kind_lem);
  of_first_page = of_first_page;
  of_filled_page = of_filled_page;
  second_page = second_page;
  bad_1 = λ P. (λ e. why_1 P (kind_why P (Bad 1) e), kind_not_sized P);
  bad_4 = λ P. (λ e. why_4 P (kind_why P (Bad 4) e), bad_4 P);
  bad_5 = λ P. (λ e. why_5 P (kind_why P (Bad 5) e), λ h. kind_unknown P h.0 h.1 h.2 h.3 h.4 h.5);
  first_refused = first_refused;
  filled_refused = filled_refused;
  filled_6_or_7 = filled_6_or_7;
  first_refused_as_read = first_refused_as_read;
  second_refused = second_refused;
  inspect_refused = inspect_refused;
  second_6_7_or_9 = second_6_7_or_9;
  numbers_of_bad = λ P n e. bad_among P n (kind_why P (Bad n) e);
}

-- ---- lines

-- the page made from 176 zero bytes
abbrev zero_record : List ℕ
zero_record = replicate 176 0

abbrev pub zero_page : List ℕ
zero_page = first_page page256 blank zero_record

-- it is a first-round page, and its words are those of the record
pub zero_first : FirstRound zero_page
zero_first = first_written sound256 zero_record

zero_words : page_words zero_page 44 ≡ first_words 44 zero_record
zero_words = words_written sound256 zero_record

-- they have 44 times 23 data cells
zero_capacity : capacity_all (first_words 44 zero_record) ≡ 1012
unfolding sum_over capacity read read_from fill set_or_end fill_from first_words zeckendorf weight series_from first number bits cells bit
zero_capacity = refl

-- so its kind has 1012
pub zero_kind : kind_of zero_page ≡ First 1012
zero_kind =
    let c : 1012 ≡ data_cells zero_page = sym (ap capacity_all zero_words ∙ zero_capacity) ∙ demand3.figures.capacity_is zero_page zero_first in
    (of_first_page zero_page 1012 zero_first.of_bytes).1 (zero_first, c)

-- the two lines
two_lines : line_of 0 (kind_of blank) ++ line_of 1 (kind_of zero_page) ≡ ascii "0 blank 0\n1 first 1012\n"
unfolding line_of decimal digits
two_lines = rw (blank_kind_lem, zero_kind) refl

example : listing_of (blank ++ zero_page) ≡ ascii "0 blank 0\n1 first 1012\n"
unfolding listing_of pieces_of
example =
    listing_page _ 0 blank zero_page blank_sized
    ∙ ap (λ (s : List ℕ). line_of 0 (kind_of blank) ++ s) (listing_last _ 1 zero_page (omega (arith, zero_first.sized)) (omega (arith, zero_first.sized)))
    ∙ two_lines

pub lines_right : LinesRight
unfolding line_of decimal digits
lines_right = record { example = example; filled_line = refl; second_line = refl; bad_line = refl }

-- ---- the listing

pub listing_right : ListingRight
unfolding listing_of pieces_of lines_from
listing_right = record {
  page = listing_page;
  last_piece = λ k index l some short. listing_last k index l some (omega arith) ∙ ap (line_of index) (kind_not_sized l (omega arith));
  empty = ap (lines_from 0) (pieces_none _);
  most = λ n l h. ap (lines_from 0) (pieces_most _ n l (omega arith));
  turns = λ k buffer l h. turns_listing (λ _. true) 4095 (omega arith) (λ i b. refl) (inl refl) 4096 k 0 buffer l h refl;
  unwritten = λ w j k buffer l m h yes no. turns_listing w j (omega arith) yes (inr no) (suc j) k 0 buffer l (omega arith) (omega arith);
}
