-- What holds of every list of checks, and of the layout. proofs/Claims.antt proves it.
-- Assumes nothing.
use Rattle.std.specs.Prelude.{Bool, true, false, List, ◌∷◌, ◌++◌, ◌↔◌, ◌≡◌, ℕ, ◌-◌, ◌^◌, ◌≤◌, ◌<◌}
use Rattle.answer.specs.Answer.{AnswerOf, result, refusal, Check, refuse, answer, after, None, numbers, among, RefusesBy}
use Rattle.answer.specs.Layout.{Faithful, FaithfulParts, Small}

-- Of answers with results of any kind A.
pub record FirstRefusalGiven (A : Type 0) : Type 0 where
  -- accepted exactly when no condition holds
  pub accepted : (cs : List Check) (x v : A) → (answer cs x ≡ result v) ↔ (None cs × (v ≡ x))
  -- "it is returned just when its condition holds and no earlier one does"
  pub refused : (cs ds : List Check) (b : Bool) (x : A) (n i k : ℕ) → among n (numbers cs) ≡ false → among n (numbers ds) ≡ false
      → (answer (cs ++ (refuse b n i ∷ ds)) x ≡ refusal n k) ↔ (None cs × (b ≡ true) × (k ≡ i))
  -- there is no other number
  pub no_other : (cs : List Check) (x : A) → RefusesBy (numbers cs) (answer cs x)
  -- a later answer keeps an earlier refusal
  pub still_refused : (cs ds : List Check) (x y : A) (n i : ℕ) → answer cs x ≡ refusal n i → answer (cs ++ ds) y ≡ refusal n i
  -- a refused call leaves a buffer as it was
  pub refused_leaves : (a : AnswerOf A) (old new : List ℕ) (n i : ℕ) → a ≡ refusal n i → after a old new ≡ old

-- A packed answer can be taken apart: where no result and no index reaches the number's bits, and where each part of a result of two keeps
-- to its own bits.
pub record TakenApart : Type 0 where
  pub one : (cs : List Check) (x : ℕ) → Small cs → (None cs → x < 2 ^ 56) → Faithful (answer cs x)
  pub two : (k : ℕ) (cs : List Check) (x y : ℕ) → k ≤ 56 → Small cs → (None cs → (x < 2 ^ k) × (y < 2 ^ (56 - k)))
      → FaithfulParts k (answer cs (x, y))
