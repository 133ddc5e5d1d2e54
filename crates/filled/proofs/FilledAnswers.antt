-- Just when the check of a filled page and page capacity accept, and when they refuse by each number, over any shape of page.
-- Assumes nothing.
use mathlib.Core.Bool.{Bool, true, false, not, and-true}
use mathlib.Core.List.{List, []}
use mathlib.Core.Logic.{◌↔◌, ◌⊎◌, inl, inr, ⊎_elim}
use mathlib.Core.Path.{◌≡◌, refl, sym, ap, ◌∙◌}
use Prim.Native.Nat.{ℕ, ◌≤◌}
use native.Mathlib.Omega.{arith}
use borrow.Author.Tests.{eqb-true, eqb-false, ne_eqb}
use lib.Dec.{eqb}
use lib.ListN.{length, get_or}
use mir.Syntax.{w8}
use mir.Val.{Fits}
use Rattle.cells.specs.Bytes.{Bytes}
use Rattle.answer.specs.Answer.{Answer, result, refusal, answer, numbers, among}
use Rattle.answer.proofs.Tells.{nothing_left}
use Rattle.answer.proofs.Chains.{same_refusal}
use Rattle.window.specs.Words.{page_words}
use Rattle.word.specs.Word.{legal}
use Rattle.word.specs.Fill.{is_filled}
use Rattle.rows.specs.declared.shape.Shape.{Shape}
use Rattle.rows.specs.Page.{shape_of, state, state_first, state_filled, byte1, lowest, read_all, FirstRoundOf, FilledOf}
use Rattle.page.specs.Terms.{SizedOf, HeaderOf, RestSetOf, LowestBad, RefusalsOf}
use Rattle.page.specs.Answer.{header_checks, first_checks}
use Rattle.page.proofs.Headed.{header_passed, opened, no_bad_word, all_words, state_refusals, state_taken}
use Rattle.page.proofs.FirstAnswers.{check_refusals, check_taken}
use Rattle.filled.specs.Answer.{page_capacity_answer, filled_checks, capacity_checks, room_first, room_filled, room_of}

module _ (s : Shape) (P : List ℕ) where
  -- ---- the check alone

  pub check_filled_refusals : (x : ℕ) → RefusalsOf state_filled is_filled s P (answer (filled_checks s P) x)
  unfolding filled_checks numbers among
  check_filled_refusals x = state_refusals state_filled is_filled s P [] x (refl, refl, refl, refl)

  pub check_filled_taken : (x v : ℕ) → Bytes P → (answer (filled_checks s P) x ≡ result v) ↔ (FilledOf s P × (v ≡ x))
  unfolding filled_checks
  check_filled_taken x v b = state_taken state_filled is_filled s P [] x v b (nothing_left x v)

  -- a page whose header passed: its words up to the first that is not filled, k of them, are all, and m data cells were counted in these
  pub counted : ((i : ℕ) → Fits w8 (get_or P i 0)) → (k m : ℕ) → ◌≡◌ {A = Answer} (result 0) (answer (header_checks state_filled 0 s P) 0)
      → k ≡ lowest is_filled (page_words P s.words) → m ≡ length (read_all (page_words P k)) → s.words ≤ k → FilledOf s P × (m ≡ room_filled s P)
  counted b k m h e f l =
      let w = no_bad_word s.words is_filled P k e l in (
        opened state_filled s P is_filled (λ i. omega (arith, b i)) (header_passed state_filled s P h) w,
        f ∙ ap (λ (j : ℕ). length (read_all (page_words P j))) (e ∙ all_words s.words is_filled P w),
      )

  -- ---- page capacity: in state 03 as the check of a filled page, in any other as that of a first-round page

  pub as_filled : state P ≡ 3 → answer (capacity_checks s P) (room_of s P) ≡ answer (filled_checks s P) (room_filled s P)
  unfolding capacity_checks filled_checks room_of
  as_filled e = rw e refl

  pub as_first : ¬ (state P ≡ 3) → answer (capacity_checks s P) (room_of s P) ≡ answer (first_checks s P) (room_first s P)
  unfolding capacity_checks first_checks room_of
  as_first n = rw (ne_eqb (state P) 3 n, and-true (not (eqb (state P) 1))) refl

  by_state : {A : Type 0} → (state P ≡ 3 → A) → (¬ (state P ≡ 3) → A) → A
  by_state {A} f g = go (eqb (state P) 3) refl
    where
      go : (b : Bool) → eqb (state P) 3 ≡ b → A
      go true e = f (eqb-true (state P) 3 e)
      go false e = g (eqb-false (state P) 3 e)

  abbrev Refused : ℕ → ℕ → Type 0
  Refused n i = answer (capacity_checks s P) (room_of s P) ≡ refusal n i

  pub capacity_taken : (c : ℕ) → Bytes P
      → (answer (capacity_checks s P) (room_of s P) ≡ result c) ↔ ((FirstRoundOf s P × (c ≡ room_first s P)) ⊎ (FilledOf s P × (c ≡ room_filled s P)))
  capacity_taken c b = by_state
      (λ e. (
        λ h. inr ((check_filled_taken _ c b).0 (sym (as_filled e) ∙ h)),
        λ h. as_filled e ∙ (check_filled_taken _ c b).1 (⊎_elim (λ f. absurd (omega (arith, e, f.0.in_state))) (λ f. f) h),
      ))
      (λ n. (
        λ h. inl ((check_taken s P _ c b).0 (sym (as_first n) ∙ h)),
        λ h. as_first n ∙ (check_taken s P _ c b).1 (⊎_elim (λ f. f) (λ f. absurd (n f.0.in_state)) h),
      ))

  pub capacity_1 : (i : ℕ) → Refused 1 i ↔ (¬ SizedOf s P × (i ≡ 0))
  capacity_1 i = by_state
      (λ e. let r = (check_filled_refusals _).one i in (λ h. r.0 (sym (as_filled e) ∙ h), λ h. as_filled e ∙ r.1 h))
      (λ n. let r = (check_refusals s P _).one i in (λ h. r.0 (sym (as_first n) ∙ h), λ h. as_first n ∙ r.1 h))

  pub capacity_5 : (i : ℕ) → Refused 5 i ↔ (SizedOf s P × ¬ (state P ≡ 1) × ¬ (state P ≡ 3) × (i ≡ 0))
  capacity_5 i = by_state
      (λ e. (λ h. absurd ((((check_filled_refusals _).five i).0 (sym (as_filled e) ∙ h)).1 e), λ h. absurd (h.2 e)))
      (λ n.
      let r = (check_refusals s P _).five i in
      (λ h. let q = r.0 (sym (as_first n) ∙ h) in (q.0, q.1, n, q.2), λ h. as_first n ∙ r.1 (h.0, h.1, h.3)))

  pub capacity_6 : (i : ℕ) → Refused 6 i ↔ (SizedOf s P × ((state P ≡ 1) ⊎ (state P ≡ 3)) × (¬ (byte1 P ≡ 0) ⊎ RestSetOf s P) × (i ≡ 0))
  capacity_6 i = by_state
      (λ e.
      let r = (check_filled_refusals _).six i in
      (λ h. let q = r.0 (sym (as_filled e) ∙ h) in (q.0, inr q.1, q.2, q.3), λ h. as_filled e ∙ r.1 (h.0, e, h.2, h.3)))
      (λ n.
      let r = (check_refusals s P _).six i in (
        λ h. let q = r.0 (sym (as_first n) ∙ h) in (q.0, inl q.1, q.2, q.3),
        λ h. as_first n ∙ r.1 (h.0, ⊎_elim (λ e. e) (λ e. absurd (n e)) h.1, h.2, h.3),
      ))

  pub capacity_7 : (i : ℕ) → Refused 7 i ↔ ((HeaderOf state_first s P × LowestBad legal (page_words P s.words) i) ⊎ (HeaderOf state_filled s P × LowestBad is_filled (page_words P s.words) i))
  capacity_7 i = by_state
      (λ e.
      let r = (check_filled_refusals _).seven i in (
        λ h. inr (r.0 (sym (as_filled e) ∙ h)),
        λ h. as_filled e ∙ r.1 (⊎_elim (λ f. absurd (omega (arith, e, f.0.1))) (λ f. f) h),
      ))
      (λ n.
      let r = (check_refusals s P _).seven i in (
        λ h. inl (r.0 (sym (as_first n) ∙ h)),
        λ h. as_first n ∙ r.1 (⊎_elim (λ f. f) (λ f. absurd (n f.0.1)) h),
      ))

  -- outside state 03 a refusal of the checks of a first-round page is the answer
  pub first_refused : (n i : ℕ) → s ≡ shape_of P → ¬ (state P ≡ 3) → ◌≡◌ {A = Answer} (refusal n i) (answer (first_checks s P) 0)
      → ◌≡◌ {A = Answer} (refusal n i) (page_capacity_answer P)
  first_refused n i k f e = rw (← k, as_first f, same_refusal {A = ℕ} {B = ℕ} (first_checks s P) 0 (room_first s P) n i (sym e)) refl
