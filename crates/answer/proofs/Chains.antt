-- Laws of a list of checks, and of what an answer leaves in a buffer.
-- Assumes nothing.
use mathlib.Core.Bool.{Bool, true, false, ◌||◌}
use mathlib.Core.List.{List, [], ◌∷◌, ◌++◌, append-nil}
use mathlib.Core.Logic.{◌↔◌}
use mathlib.Core.Path.{◌≡◌, refl, sym, ap, ◌∙◌, subst}
use Prim.Native.Nat.{ℕ}
use native.Mathlib.Omega.{arith}
use borrow.Author.Tests.{eq-eqb, ne_eqb, eqb-true}
use lib.Dec.{T, eqb}
use lib.ListN.{length, drop}
use Rattle.cells.specs.Bytes.{at_start}
use Rattle.answer.specs.Answer.{AnswerOf, result, refusal, Check, refuse, answer, after, None, numbers, among, RefusesBy}

-- what follows from both parts of a pair, each of which may say what the other leaves open
pub given_both : {A B C : Type 0} → A × B → (A → B → C) → C
given_both p f = f p.0 p.1

-- ---- the answer of a list

-- accepted exactly where no condition holds
pub accepted : {A : Type 0} (cs : List Check) (x v : A) → (answer cs x ≡ result v) ↔ (None cs × (v ≡ x))
unfolding answer
accepted [] x v = (λ e. (tt, cc), λ h. ap result (sym h.1))
accepted (refuse true m j ∷ cs) x v = (λ e. let z : ◌≡◌ {A = ℕ} 0 1 = cc in absurd (omega arith), λ h. absurd (subst T h.0.0 tt))
accepted (refuse false m j ∷ cs) x v = (
  λ e. let p = (accepted cs x v).0 e in ((refl, p.0), p.1),
  λ h. (accepted cs x v).1 (h.0.1, h.1),
)

-- a refusal does not depend on what stands behind it, nor on the result
pub still_refused : {A B : Type 0} (cs ds : List Check) (x : A) (y : B) (n i : ℕ) → answer cs x ≡ refusal n i → answer (cs ++ ds) y ≡ refusal n i
unfolding answer
still_refused [] ds x y n i e = let z : ◌≡◌ {A = ℕ} 0 1 = cc in absurd (omega arith)
still_refused (refuse true m j ∷ cs) ds x y n i e = let p : m ≡ n = cc in let q : j ≡ i = cc in rw (p, q) refl
still_refused (refuse false m j ∷ cs) ds x y n i e = still_refused cs ds x y n i e

pub same_refusal : {A B : Type 0} (cs : List Check) (x : A) (y : B) (n i : ℕ) → answer cs x ≡ refusal n i → answer cs y ≡ refusal n i
same_refusal cs x y n i e = subst (λ (ds : List Check). answer ds y ≡ refusal n i) (append-nil cs) (still_refused cs [] x y n i e)

-- a last check whose condition does not hold
pub last_passed : {A : Type 0} (cs : List Check) (b : Bool) (n i : ℕ) (x : A) → b ≡ false → answer (cs ++ (refuse b n i ∷ [])) x ≡ answer cs x
unfolding answer
last_passed [] b n i x e = rw e refl
last_passed (refuse true m j ∷ cs) b n i x e = refl
last_passed (refuse false m j ∷ cs) b n i x e = last_passed cs b n i x e

-- ---- numbers

-- the number of a refusal is one of the checks'
listed : {A : Type 0} (cs : List Check) (x : A) (n i : ℕ) → answer cs x ≡ refusal n i → T (among n (numbers cs))
unfolding among answer numbers
listed [] x n i e = let z : ◌≡◌ {A = ℕ} 0 1 = cc in absurd (omega arith)
listed (refuse true m j ∷ cs) x n i e = let z : n ≡ m = cc in rw (eq-eqb n m z) tt
listed (refuse false m j ∷ cs) x n i e = right (eqb n m) (among n (numbers cs)) (listed cs x n i e)
  where
    right : (a b : Bool) → T b → T (a || b)
    right true b t = tt
    right false b t = t

pub no_other : {A : Type 0} (cs : List Check) (x : A) → RefusesBy (numbers cs) (answer cs x)
no_other cs x = record { listed = listed cs x }

-- a number that is not the first of a list
pub among_others : (n m : ℕ) (ms : List ℕ) → ¬ (n ≡ m) → T (among n (m ∷ ms)) → T (among n ms)
unfolding among
among_others n m ms h t = rw (ne_eqb n m h) at t

-- each number of a list is among others
abbrev pub Within : List ℕ → List ℕ → Type 0
Within [] ms = Unit {0}
Within (m ∷ ns) ms = T (among m ms) × Within ns ms

-- so a number that is among the list is among the others
pub within : (n : ℕ) (ns ms : List ℕ) → Within ns ms → T (among n ns) → T (among n ms)
unfolding among
within n [] ms w h = absurd h
within n (m ∷ ns) ms w h = go (eqb n m) refl h (within n ns ms w.1)
  where
    go : (b : Bool) → eqb n m ≡ b → T (b || among n ns) → (T (among n ns) → T (among n ms)) → T (among n ms)
    go true e t r = rw (eqb-true n m e) w.0
    go false e t r = r t

-- ---- the first that holds

-- neither of two conditions holds
pub neither : (a b : Bool) → (a || b) ≡ false → (a ≡ false) × (b ≡ false)
neither true b e = absurd (subst T e tt)
neither false b e = (refl, e)

-- just when: no earlier condition holds, and this one does
pub refused : {A : Type 0} (cs ds : List Check) (b : Bool) (x : A) (n i k : ℕ) → among n (numbers cs) ≡ false → among n (numbers ds) ≡ false
    → (answer (cs ++ (refuse b n i ∷ ds)) x ≡ refusal n k) ↔ (None cs × (b ≡ true) × (k ≡ i))
unfolding among answer numbers
refused [] ds true x n i k f g = (λ e. (tt, refl, cc), λ h. ap (refusal n) (sym h.2))
refused [] ds false x n i k f g = (λ e. absurd (subst T g (listed ds x n k e)), λ h. absurd (subst T (sym h.1) tt))
refused (refuse true m j ∷ cs) ds b x n i k f g = (
  λ e. let z : n ≡ m = cc in absurd (subst T (neither (eqb n m) (among n (numbers cs)) f).0 (rw (eq-eqb n m z) tt)),
  λ h. absurd (subst T h.0.0 tt),
)
refused (refuse false m j ∷ cs) ds b x n i k f g =
    let r = refused cs ds b x n i k (neither (eqb n m) (among n (numbers cs)) f).1 g in
    (λ e. let p = r.0 e in ((refl, p.0), p.1, p.2), λ h. r.1 (h.0.1, h.1, h.2))

-- ---- what an answer leaves

pub refused_leaves : {A : Type 0} (a : AnswerOf A) (old new : List ℕ) (n i : ℕ) → a ≡ refusal n i → after a old new ≡ old
refused_leaves {A} a old new n i e = ap (λ (x : AnswerOf A). after x old new) e

pub taken_leaves : {A : Type 0} (a : AnswerOf A) (old new : List ℕ) (v : A) → a ≡ result v → after a old new ≡ new
taken_leaves {A} a old new v e = ap (λ (x : AnswerOf A). after x old new) e

-- an output: the new bytes at its start
pub output_leaves : {A : Type 0} (a : AnswerOf A) (out new r : List ℕ) (v : A) → a ≡ result v → new ≡ r
    → after a out (at_start new out) ≡ r ++ drop (length r) out
unfolding at_start
output_leaves a out new r v e f = taken_leaves a out (at_start new out) v e ∙ ap (λ (x : List ℕ). x ++ drop (length x) out) f

-- an answer and its buffer together
module _ {A : Type 0} (a : AnswerOf A) (old new : List ℕ) where
  pub both_refused : (n i : ℕ) → a ≡ refusal n i → (refusal n i ≡ a) × (old ≡ after a old new)
  both_refused n i e = (sym e, sym (refused_leaves a old new n i e))

  pub both_done : (x : A) (now : List ℕ) → a ≡ result x → now ≡ new → (result x ≡ a) × (now ≡ after a old new)
  both_done x now e s = (sym e, s ∙ sym (taken_leaves a old new x e))
