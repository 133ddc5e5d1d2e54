-- Which kind a piece has, by its length and its state, and why. Assumes nothing.
use mathlib.Core.Bool.{Bool, true, false}
use mathlib.Core.List.{List, [], ◌∷◌}
use mathlib.Core.Logic.{◌⊎◌, inl, inr, ⊎_elim}
use mathlib.Core.Path.{◌≡◌, refl, sym, ap, ◌∙◌, subst}
use Prim.Native.Nat.{ℕ, ◌≤◌}
use native.Mathlib.Decide.{ℕ_discrete}
use native.Mathlib.Omega.{arith}
use borrow.Author.Tests.{ltb-false, eq-eqb, ne_eqb, le-ltb}
use lib.Dec.{T, eqb, ltb, eqb→eq}
use lib.ListN.{length}
use mir.Facts.{and_yes}
use Rattle.cells.specs.Bytes.{zeros}
use Rattle.cells.proofs.Tests.{holds}
use Rattle.answer.specs.Answer.{Answer, result, refusal, among, answer, numbers}
use Rattle.answer.proofs.Chains.{accepted, no_other, last_passed, within}
use Rattle.rows.specs.declared.shape.Shape.{Shape}
use Rattle.rows.specs.Page.{state, record_length, bad_header, is_blank, blank_of, page256, shape_of}
use Rattle.rows.proofs.Headers.{header_tells}
use Rattle.rows.specs.Code.{Code, fill_code, longest}
use Rattle.rows.proofs.Blank.{zeros_blank, blank_zeros}
use Rattle.rows.proofs.Shapes.{sound256, own_shape}
use Rattle.page.specs.Answer.{record_checks, read_checks, read_answer}
use Rattle.filled.specs.Answer.{page_capacity_answer, capacity_checks}
use Rattle.second.specs.Answer.{read_second_answer}
use Rattle.inspect.specs.Rows.{inspect_code}
use Rattle.inspect.specs.Answer.{read_inspect_answer}
use Rattle.report.specs.Claims.{blank, Sized}
use Rattle.report.specs.Kinds.{kind_by, kind_of, blank_kind}
use Rattle.report.specs.declared.Kind.{Kind}
use Rattle.report.specs.declared.Kind.TheVariants.{Blank, First, Filled, Second, Bad}

module _ (P : List ℕ) where
  pub kind_not_sized : ¬ (length P ≡ 256) → kind_of P ≡ Bad 1
  unfolding kind_of
  kind_not_sized h = rw (ne_eqb (length P) 256 h) refl

  module _ (sized : length P ≡ 256) where
    pub kind_00 : state P ≡ 0 → kind_of P ≡ blank_kind P
    unfolding kind_of
    kind_00 s = rw (eq-eqb (length P) 256 sized) rw s refl

    pub kind_01 : state P ≡ 1 → kind_of P ≡ kind_by First (page_capacity_answer P)
    unfolding kind_of
    kind_01 s = rw (eq-eqb (length P) 256 sized) rw s refl

    pub kind_03 : state P ≡ 3 → kind_of P ≡ kind_by Filled (page_capacity_answer P)
    unfolding kind_of
    kind_03 s = rw (eq-eqb (length P) 256 sized) rw s refl

    pub kind_07 : state P ≡ 7 → kind_of P ≡ kind_by Second (read_second_answer P (blank_of 126))
    unfolding kind_of
    kind_07 s = rw (eq-eqb (length P) 256 sized) rw s refl

    pub kind_09 : state P ≡ 9 → kind_of P ≡ kind_by Second (read_inspect_answer P (blank_of 247))
    unfolding kind_of
    kind_09 s = rw (eq-eqb (length P) 256 sized) rw s refl

    pub kind_unknown : ¬ (state P ≡ 0) → ¬ (state P ≡ 1) → ¬ (state P ≡ 3) → ¬ (state P ≡ 7) → ¬ (state P ≡ 9) → kind_of P ≡ Bad 5
    unfolding kind_of
    kind_unknown s0 s1 s3 s7 s9 =
        rw (eq-eqb (length P) 256 sized) rw (ne_eqb (state P) 0 s0) rw (ne_eqb (state P) 1 s1) rw (ne_eqb (state P) 3 s3) rw (ne_eqb (state P) 7 s7)
        rw (ne_eqb (state P) 9 s9) refl

-- by the length and the state
pub ruleset by_state = (kind_not_sized, kind_00, kind_01, kind_03, kind_07, kind_09, kind_unknown)

-- ---- why a piece has its kind

-- why a piece is bad, by its number
pub data WhyBad (P : List ℕ) (n : ℕ) : Type 0 where
  not_sized : n ≡ 1 → ¬ Sized P → WhyBad P n
  not_blank : n ≡ 4 → Sized P → state P ≡ 0 → ¬ (P ≡ blank) → WhyBad P n
  unknown : n ≡ 5 → Sized P → ¬ (state P ≡ 0) → ¬ (state P ≡ 1) → ¬ (state P ≡ 3) → ¬ (state P ≡ 7) → ¬ (state P ≡ 9) → WhyBad P n
  open_bad : (i : ℕ) → Sized P → (state P ≡ 1) ⊎ (state P ≡ 3) → page_capacity_answer P ≡ refusal n i → WhyBad P n
  second_bad : (i : ℕ) → Sized P → state P ≡ 7 → read_second_answer P (blank_of 126) ≡ refusal n i → WhyBad P n
  inspect_bad : (i : ℕ) → Sized P → state P ≡ 9 → read_inspect_answer P (blank_of 247) ≡ refusal n i → WhyBad P n

-- why a piece has a kind
abbrev pub Why : List ℕ → Kind → Type 0
Why P Blank = P ≡ blank
Why P (First c) = Sized P × (state P ≡ 1) × (page_capacity_answer P ≡ result c)
Why P (Filled c) = Sized P × (state P ≡ 3) × (page_capacity_answer P ≡ result c)
Why P (Second n) = Sized P × ((read_second_answer P (blank_of 126) ≡ result n) ⊎ (read_inspect_answer P (blank_of 247) ≡ result n))
Why P (Bad n) = WhyBad P n

-- the blank page passes the test
blank_tested : is_blank 256 blank ≡ true
unfolding is_blank blank_of
blank_tested = zeros_blank 256

-- a piece is the blank page, or not, and its kind in state 00 says which
pub blank_or_bad : (P : List ℕ) → ((P ≡ blank) × (blank_kind P ≡ Blank)) ⊎ (¬ (P ≡ blank) × (blank_kind P ≡ Bad 4))
unfolding is_blank
blank_or_bad P = go (is_blank 256 P) refl
  where
    go : (b : Bool) → is_blank 256 P ≡ b → ((P ≡ blank) × (blank_kind P ≡ Blank)) ⊎ (¬ (P ≡ blank) × (blank_kind P ≡ Bad 4))
    go true e =
        let h = and_yes (eqb (length P) 256) (zeros P) (holds (is_blank 256 P) e) in
        inl (blank_zeros P h.1 ∙ ap blank_of (eqb→eq (length P) 256 h.0), rw e)
    go false e = inr (λ h. subst T (sym blank_tested ∙ ap (is_blank 256) (sym h) ∙ e) tt, rw e)

-- a piece of 256 bytes is held to that page
pub own : (P : List ℕ) → Sized P → shape_of P ≡ page256
own P z = own_shape sound256 P z

module _ (P : List ℕ) (z : Sized P) where
  -- in states 01 and 03, by page capacity's answer
  by_capacity : state P ≡ 1 → (a : Answer) → page_capacity_answer P ≡ a → Why P (kind_by First a)
  by_capacity s (result c) e = (z, s, e)
  by_capacity s (refusal n i) e = open_bad i z (inl s) e

  by_filled : state P ≡ 3 → (a : Answer) → page_capacity_answer P ≡ a → Why P (kind_by Filled a)
  by_filled s (result c) e = (z, s, e)
  by_filled s (refusal n i) e = open_bad i z (inr s) e

  -- in state 07, by read second's
  by_second : state P ≡ 7 → (a : Answer) → read_second_answer P (blank_of 126) ≡ a → Why P (kind_by Second a)
  by_second s (result n) e = (z, inl e)
  by_second s (refusal n i) e = second_bad i z s e

  -- in state 09, by read Inspect's
  by_inspect : state P ≡ 9 → (a : Answer) → read_inspect_answer P (blank_of 247) ≡ a → Why P (kind_by Second a)
  by_inspect s (result n) e = (z, inr e)
  by_inspect s (refusal n i) e = inspect_bad i z s e

module _ (P : List ℕ) where
  -- by the length and the state
  by_cases : Dec (Sized P) → Dec (state P ≡ 0) → Dec (state P ≡ 1) → Dec (state P ≡ 3) → Dec (state P ≡ 7) → Dec (state P ≡ 9) → Why P (kind_of P)
  by_cases (no z) d0 d1 d3 d7 d9 = rw (kind_not_sized P z) (not_sized refl z)
  by_cases (yes z) (yes s) d1 d3 d7 d9 =
      rw (kind_00 P z s) (⊎_elim (λ h. rw h.1 h.0) (λ h. rw h.1 (not_blank refl z s h.0)) (blank_or_bad P))
  by_cases (yes z) (no s0) (yes s) d3 d7 d9 = rw (kind_01 P z s) (by_capacity P z s (page_capacity_answer P) refl)
  by_cases (yes z) (no s0) (no s1) (yes s) d7 d9 = rw (kind_03 P z s) (by_filled P z s (page_capacity_answer P) refl)
  by_cases (yes z) (no s0) (no s1) (no s3) (yes s) d9 = rw (kind_07 P z s) (by_second P z s (read_second_answer P (blank_of 126)) refl)
  by_cases (yes z) (no s0) (no s1) (no s3) (no s7) (yes s) = rw (kind_09 P z s) (by_inspect P z s (read_inspect_answer P (blank_of 247)) refl)
  by_cases (yes z) (no s0) (no s1) (no s3) (no s7) (no s9) = rw (kind_unknown P z s0 s1 s3 s7 s9) (unknown refl z s0 s1 s3 s7 s9)

  -- a piece that has a kind has it for that kind's reason
  pub kind_why : (k : Kind) → kind_of P ≡ k → Why P k
  kind_why k e =
      subst (Why P) e
      (by_cases (ℕ_discrete (length P) 256) (ℕ_discrete (state P) 0) (ℕ_discrete (state P) 1) (ℕ_discrete (state P) 3) (ℕ_discrete (state P) 7)
      (ℕ_discrete (state P) 9))

-- ---- the numbers of `bad`

-- a reader that holds a page to 256 bytes
module _ (c : Code) (P out : List ℕ) (held : shape_of P ≡ page256) (h : longest c page256 ≤ length out) where
  reads_as : read_answer c P out ≡ answer (read_checks c page256 P out) (record_length P)
  reads_as = ap (λ (s : Shape). answer (read_checks c s P out) (record_length P)) held

  -- with an output that every record fits it has no refusal 3
  pub reader_fits : read_answer c P out ≡ answer (record_checks c page256 P) (record_length P)
  unfolding answer record_checks read_checks bad_header
  reader_fits = reads_as ∙ go (ltb (longest c page256) (record_length P)) refl
    where
      go : (b : Bool) → ltb (longest c page256) (record_length P) ≡ b
          → answer (read_checks c page256 P out) (record_length P) ≡ answer (record_checks c page256 P) (record_length P)
      go true e = rw e refl
      go false e =
          let l = ltb-false (longest c page256) (record_length P) e in
          last_passed (record_checks c page256 P) (ltb (length out) (record_length P)) 3 0 (record_length P)
          (le-ltb (length out) (record_length P) (omega arith))

  -- and a record that it reads is not too long
  reader_short : (n : ℕ) → read_answer c P out ≡ result n → n ≤ longest c page256
  unfolding record_checks
  reader_short n a =
      let passed = (accepted (record_checks c page256 P) (record_length P) n).0 (sym reader_fits ∙ a) in
      let short = ((header_tells 44 P (longest c page256)).if_not passed.0.1.1.0).0 in
      omega (arith, passed.1)

  -- its numbers
  pub reader_among : (n i : ℕ) → read_answer c P out ≡ refusal n i → T (among n (1 ∷ 5 ∷ 6 ∷ 7 ∷ 9 ∷ []))
  unfolding among numbers record_checks
  reader_among n i a = (no_other (record_checks c page256 P) (record_length P)).listed n i (sym reader_fits ∙ a)

-- a record's length is at most 247
pub second_short : (P : List ℕ) (n : ℕ) → kind_of P ≡ Second n → n ≤ 247
unfolding blank_of
second_short P n e =
    let w = kind_why P (Second n) e in
    ⊎_elim
    (λ a. omega (arith, reader_short fill_code P (blank_of 126) (own P w.0) (omega arith) n a))
    (λ a. reader_short inspect_code P (blank_of 247) (own P w.0) (omega arith) n a)
    w.1

-- document 01's
abbrev bad_numbers : List ℕ
bad_numbers = 1 ∷ 4 ∷ 5 ∷ 6 ∷ 7 ∷ 9 ∷ []

-- a bad piece's number is one of these
pub bad_among : (P : List ℕ) (n : ℕ) → WhyBad P n → T (among n bad_numbers)
unfolding among numbers capacity_checks blank_of
bad_among P n (not_sized e _) = rw e tt
bad_among P n (not_blank e _ _ _) = rw e tt
bad_among P n (unknown e _ _ _ _ _ _) = rw e tt
bad_among P n (open_bad i z s e) =
    within n (1 ∷ 5 ∷ 6 ∷ 7 ∷ []) bad_numbers (tt, (tt, (tt, (tt, tt)))) ((no_other (capacity_checks (shape_of P) P) _).listed n i e)
bad_among P n (second_bad i z s e) =
    within n (1 ∷ 5 ∷ 6 ∷ 7 ∷ 9 ∷ []) bad_numbers (tt, (tt, (tt, (tt, (tt, tt)))))
    (reader_among fill_code P (blank_of 126) (own P z) (omega arith) n i e)
bad_among P n (inspect_bad i z s e) =
    within n (1 ∷ 5 ∷ 6 ∷ 7 ∷ 9 ∷ []) bad_numbers (tt, (tt, (tt, (tt, (tt, tt)))))
    (reader_among inspect_code P (blank_of 247) (own P z) (omega arith) n i e)
