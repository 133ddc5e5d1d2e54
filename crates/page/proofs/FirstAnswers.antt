-- Just when write first, read first and the check of a first-round page accept, and when they refuse by each number, over any shape of page.
-- Assumes nothing.
use mathlib.Core.Bool.{not}
use mathlib.Core.List.{List, []}
use mathlib.Core.Logic.Iff
use mathlib.Core.Logic.{◌↔◌}
use mathlib.Core.Path.{◌≡◌, refl, sym, ap, ◌∙◌}
use Prim.Native.Nat.{ℕ, ◌≤◌, ◌<◌}
use native.Mathlib.Omega.{arith}
use lib.Dec.{eqb}
use lib.ListN.{length, get_or}
use mir.Syntax.{w8}
use mir.Val.{Fits}
use Rattle.cells.specs.Bytes.{Bytes}
use Rattle.answer.specs.Answer.{Answer, result, refusal, answer, numbers, among}
use Rattle.answer.proofs.Chains.{accepted, still_refused}
use Rattle.answer.proofs.Tells.{Tells, unequal, less, just, later, taken, nothing_left, flat3}
use Rattle.word.specs.Word.{legal}
use Rattle.rows.specs.declared.shape.Shape.{Shape}
use Rattle.rows.specs.Page.{state_first, blank_of, FirstRoundOf}
use Rattle.rows.proofs.Blank.{length_blank, not_blank}
use Rattle.page.specs.Terms.{SizedOf, RefusalsOf}
use Rattle.page.specs.Answer.{write_first_checks, first_checks, read_first_checks}
use Rattle.page.proofs.Headed.{not_sized, state_refusals, state_later, state_taken}

-- ---- write first

module _ (s : Shape) (P D : List ℕ) where
  other_length : Tells (not (eqb (length D) s.first)) (¬ (length D ≡ s.first)) (length D ≡ s.first)
  other_length = unequal (length D) s.first

  pub write_first : (v : ℕ) → (answer (write_first_checks s P D) 0 ≡ result v) ↔ ((P ≡ blank_of s.size) × (length D ≡ s.first) × (v ≡ 0))
  unfolding write_first_checks
  write_first v =
      Iff.trans
      (taken (not_sized s P) 1 0 _ 0 v (taken other_length 2 0 _ 0 v (taken (not_blank P) 4 0 _ 0 v (nothing_left 0 v)))) (
        λ h. (h.1.1.0 ∙ ap blank_of h.0, h.1.0, h.1.1.1),
        λ h. let l = ap length h.0 ∙ length_blank s.size in (l, (h.1, (h.0 ∙ ap blank_of (sym l), h.2))),
      )

  pub write_first_1 : (i : ℕ) → (answer {A = ℕ} (write_first_checks s P D) 0 ≡ refusal 1 i) ↔ (¬ SizedOf s P × (i ≡ 0))
  unfolding write_first_checks numbers among
  write_first_1 i = just (not_sized s P) 1 0 _ 0 refl i

  pub write_first_2 : (i : ℕ) → (answer {A = ℕ} (write_first_checks s P D) 0 ≡ refusal 2 i) ↔ (SizedOf s P × ¬ (length D ≡ s.first) × (i ≡ 0))
  unfolding write_first_checks numbers among
  write_first_2 i = Iff.trans (later (not_sized s P) 1 0 _ 0 2 i (λ e. omega arith) (just other_length 2 0 _ 0 refl i)) flat3

  pub write_first_4 : (i : ℕ) → (answer {A = ℕ} (write_first_checks s P D) 0 ≡ refusal 4 i)
      ↔ (SizedOf s P × (length D ≡ s.first) × ¬ (P ≡ blank_of s.size) × (i ≡ 0))
  unfolding write_first_checks numbers among
  write_first_4 i =
      Iff.trans
      (later (not_sized s P) 1 0 _ 0 4 i (λ e. omega arith) (later other_length 2 0 _ 0 4 i (λ e. omega arith) (just (not_blank P) 4 0 _ 0 refl i))) (
        λ h. (h.0, h.1.0, λ e. h.1.1.0 (e ∙ ap blank_of (sym h.0)), h.1.1.1),
        λ h. (h.0, (h.1, (λ e. h.2 (e ∙ ap blank_of h.0), h.3))),
      )

-- ---- a first-round page

module _ (s : Shape) (P : List ℕ) where
  -- the check alone
  pub check_refusals : (x : ℕ) → RefusalsOf state_first legal s P (answer (first_checks s P) x)
  unfolding first_checks numbers among
  check_refusals x = state_refusals state_first legal s P [] x (refl, refl, refl, refl)

  pub check_taken : (x v : ℕ) → Bytes P → (answer (first_checks s P) x ≡ result v) ↔ (FirstRoundOf s P × (v ≡ x))
  unfolding first_checks
  check_taken x v b = state_taken state_first legal s P [] x v b (nothing_left x v)

  -- the length of a page that it passed
  pub first_sized : ◌≡◌ {A = Answer} (result 0) (answer (first_checks s P) 0) → SizedOf s P
  unfolding first_checks
  first_sized e = (not_sized s P).if_not ((accepted (first_checks s P) 0 0).0 (sym e)).0.0

  -- ... and all that it says
  pub first_passed : ((i : ℕ) → Fits w8 (get_or P i 0)) → ◌≡◌ {A = Answer} (result 0) (answer (first_checks s P) 0) → FirstRoundOf s P
  first_passed b e = ((check_taken 0 0 (λ i. omega (arith, b i))).0 (sym e)).0

  -- ---- read first

  module _ (out : List ℕ) where
    pub read_first : (v : ℕ) → Bytes P → (answer (read_first_checks s P out) 0 ≡ result v) ↔ (FirstRoundOf s P × (s.first ≤ length out) × (v ≡ 0))
    unfolding read_first_checks first_checks
    read_first v b = Iff.trans (state_taken state_first legal s P _ 0 v b (taken (less (length out) s.first) 3 0 _ 0 v (nothing_left 0 v))) flat3

    pub read_first_1567 : RefusalsOf state_first legal s P (answer (read_first_checks s P out) 0)
    unfolding read_first_checks first_checks numbers among
    read_first_1567 = state_refusals state_first legal s P _ 0 (refl, refl, refl, refl)

    pub read_first_3 : (i : ℕ) → Bytes P → (answer {A = ℕ} (read_first_checks s P out) 0 ≡ refusal 3 i) ↔ (FirstRoundOf s P × (length out < s.first) × (i ≡ 0))
    unfolding read_first_checks first_checks numbers among
    read_first_3 i b = Iff.trans (state_later state_first legal s P _ 0 3 i b (omega arith) (just (less (length out) s.first) 3 0 _ 0 refl i)) flat3

    -- what the check refuses, read first refuses
    pub read_first_refused : (n i : ℕ) → ◌≡◌ {A = Answer} (refusal n i) (answer (first_checks s P) 0) → answer {A = ℕ} (read_first_checks s P out) 0 ≡ refusal n i
    unfolding read_first_checks
    read_first_refused n i e = still_refused (first_checks s P) _ 0 0 n i (sym e)
