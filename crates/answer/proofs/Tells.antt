-- A test, what it says where it holds and where it does not, and what a check with that condition makes of an answer.
-- Assumes nothing.
use mathlib.Core.Bool.{Bool, true, false, not, ◌||◌}
use mathlib.Core.List.{List, [], ◌∷◌}
use mathlib.Core.Logic.{◌↔◌, ◌⊎◌, inl, inr, ⊎_elim}
use mathlib.Core.Path.{◌≡◌, refl, sym, ap, ◌∙◌, subst}
use Prim.Native.Nat.{ℕ, ◌≤◌, ◌<◌}
use native.Mathlib.Omega.{arith}
use borrow.Author.Tests.{leb-true, leb-false, ltb-true, ltb-false, eqb-true, eqb-false, not-true, not-false}
use lib.Dec.{T, eqb, leb, ltb}
use Rattle.cells.proofs.Tests.{holds}
use Rattle.answer.specs.Answer.{result, refusal, Check, refuse, answer, numbers, among}
use Rattle.answer.proofs.Chains.{no_other}

-- ---- tests

pub record Tells (b : Bool) (A B : Type 0) : Type 0 where
  pub if_holds : b ≡ true → A
  pub if_not : b ≡ false → B
  pub apart : A → B → ⊥

pub unequal : (x y : ℕ) → Tells (not (eqb x y)) (¬ (x ≡ y)) (x ≡ y)
unequal x y = record {
  if_holds = λ e. eqb-false x y (not-true (eqb x y) e);
  if_not = λ e. eqb-true x y (not-false (eqb x y) e);
  apart = λ n e. n e;
}

pub less : (x y : ℕ) → Tells (ltb x y) (x < y) (y ≤ x)
less x y = record { if_holds = ltb-true x y; if_not = ltb-false x y; apart = λ h k. omega arith }

pub at_most : (x y : ℕ) → Tells (leb x y) (x ≤ y) (y < x)
at_most x y = record { if_holds = leb-true x y; if_not = leb-false x y; apart = λ h k. omega arith }

pub itself : (b : Bool) → Tells b (T b) (b ≡ false)
itself b = record { if_holds = holds b; if_not = λ e. e; apart = λ t e. subst T e t }

pub opposite : (b : Bool) → Tells (not b) (b ≡ false) (T b)
opposite b = record { if_holds = not-true b; if_not = λ e. holds b (not-false b e); apart = λ e t. subst T e t }

-- one of two conditions
pub either : {a b : Bool} {A B C D : Type 0} → Tells a A B → Tells b C D → Tells (a || b) (A ⊎ C) (B × D)
either {a = true} s t = record {
  if_holds = λ e. inl (s.if_holds refl);
  if_not = λ e. absurd (subst T e tt);
  apart = λ h k. ⊎_elim (λ x. s.apart x k.0) (λ y. t.apart y k.1) h;
}
either {a = false} s t = record {
  if_holds = λ e. inr (t.if_holds e);
  if_not = λ e. (s.if_not refl, t.if_not e);
  apart = λ h k. ⊎_elim (λ x. s.apart x k.0) (λ y. t.apart y k.1) h;
}

-- what a test says, the other way round
pub is_held : {b : Bool} {A B : Type 0} → Tells b A B → A → b ≡ true
is_held {b = true} t a = refl
is_held {b = false} t a = absurd (t.apart a (t.if_not refl))

pub is_not : {b : Bool} {A B : Type 0} → Tells b A B → B → b ≡ false
is_not {b = true} t h = absurd (t.apart (t.if_holds refl) h)
is_not {b = false} t h = refl

-- ---- a check before others

module _ {b : Bool} {A B C : Type 0} (t : Tells b A B) (n i : ℕ) (cs : List Check) (x : C) where
  -- its condition holds
  pub first_refused : A → answer (refuse b n i ∷ cs) x ≡ refusal n i
  unfolding answer
  first_refused a = rw (is_held t a) refl

  -- it does not
  pub passed : B → answer (refuse b n i ∷ cs) x ≡ answer cs x
  unfolding answer
  passed h = rw (is_not t h) refl

  -- its own number
  pub just : among n (numbers cs) ≡ false → (k : ℕ) → (answer (refuse b n i ∷ cs) x ≡ refusal n k) ↔ (A × (k ≡ i))
  unfolding answer
  just f k = (λ e. by b refl e, λ h. first_refused h.0 ∙ ap (refusal n) (sym h.1))
    where
      by : (c : Bool) → b ≡ c → answer (refuse c n i ∷ cs) x ≡ refusal n k → A × (k ≡ i)
      by true e h = (t.if_holds e, cc)
      by false e h = absurd (subst T f ((no_other cs x).listed n k h))

  -- a later number
  pub later : {X : Type 0} (m k : ℕ) → ¬ (n ≡ m) → (answer cs x ≡ refusal m k) ↔ X → (answer (refuse b n i ∷ cs) x ≡ refusal m k) ↔ (B × X)
  unfolding answer
  later {X} m k d r = (λ e. by b refl e, λ h. passed h.0 ∙ r.1 h.1)
    where
      by : (c : Bool) → b ≡ c → answer (refuse c n i ∷ cs) x ≡ refusal m k → B × X
      by true e h = absurd (d cc)
      by false e h = (t.if_not e, r.0 h)

  -- a result
  pub taken : {X : Type 0} (v : C) → (answer cs x ≡ result v) ↔ X → (answer (refuse b n i ∷ cs) x ≡ result v) ↔ (B × X)
  unfolding answer
  taken {X} v r = (λ e. by b refl e, λ h. passed h.0 ∙ r.1 h.1)
    where
      by : (c : Bool) → b ≡ c → answer (refuse c n i ∷ cs) x ≡ result v → B × X
      by true e h = let z : ◌≡◌ {A = ℕ} 0 1 = cc in absurd (omega arith)
      by false e h = (t.if_not e, r.0 h)

-- no check left
pub nothing_left : {C : Type 0} (x v : C) → (answer [] x ≡ result v) ↔ (v ≡ x)
unfolding answer
nothing_left x v = (λ e. cc, λ h. ap result (sym h))

-- ---- conditions one after another

pub flat3 : {A B C : Type 0} → (A × (B × C)) ↔ (A × B × C)
flat3 = (λ h. (h.0, h.1.0, h.1.1), λ h. (h.0, (h.1, h.2)))

pub flat4 : {A B C D : Type 0} → (A × (B × C × D)) ↔ (A × B × C × D)
flat4 = (λ h. (h.0, h.1.0, h.1.1, h.1.2), λ h. (h.0, (h.1, h.2, h.3)))
