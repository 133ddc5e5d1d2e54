-- Packed answers taken apart again: the number and the result, and the two parts of a result that has two.
-- Assumes nothing.
use mathlib.Core.Bool.{true, false}
use mathlib.Core.List.{List, [], ◌∷◌}
use mathlib.Core.Path.{◌≡◌, refl, sym, ap, ◌∙◌, subst}
use Prim.Native.Nat.{ℕ, ◌+◌, ◌-◌, ◌*◌, ◌/◌, ◌%◌, ◌^◌, ◌≤◌, ◌<◌}
use native.Mathlib.Nat.{add_comm, mod-eq_of_lt}
use native.Mathlib.Omega.{arith}
use lib.Arith.{digits_lt}
use lib.Pow.{pow-add, high, low}
use Rattle.answer.specs.Answer.{Check, refuse, answer, None}
use Rattle.answer.specs.Layout.{Faithful, FaithfulParts, Small}

-- no result and no index reaches the number's bits
pub taken_apart : (cs : List Check) (x : ℕ) → Small cs → (None cs → x < 2 ^ 56) → Faithful (answer cs x)
unfolding answer
taken_apart [] x s h = let small = h tt in record { number = omega arith; value = omega arith }
taken_apart (refuse true m j ∷ cs) x s h = let small = s.0 in record { number = omega arith; value = omega arith }
taken_apart (refuse false m j ∷ cs) x s h = taken_apart cs x s.1 (λ n. h (refl, n))

-- two parts in one number: x in the low k bits, y above them
module _ (k x y : ℕ) (l : k ≤ 56) (a : x < 2 ^ k) (b : y < 2 ^ (56 - k)) where
  turned : x + y * 2 ^ k ≡ y * 2 ^ k + x
  turned = add_comm x (y * 2 ^ k)

  joined_small : x + y * 2 ^ k < 2 ^ 56
  joined_small =
      let e : (56 - k) + k ≡ 56 = omega arith in
      rw turned (subst (λ (n : ℕ). y * 2 ^ k + x < n) (sym (pow-add 2 (56 - k) k) ∙ ap (λ (n : ℕ). 2 ^ n) e) (digits_lt b a))

  low_part : (x + y * 2 ^ k) % 2 ^ k ≡ x
  low_part = rw turned (low y k a)

  high_part : (x + y * 2 ^ k) / 2 ^ k % 2 ^ (56 - k) ≡ y
  high_part = rw (turned, high y k a) (mod-eq_of_lt b)

pub parts_apart : (k : ℕ) (cs : List Check) (x y : ℕ) → k ≤ 56 → Small cs → (None cs → (x < 2 ^ k) × (y < 2 ^ (56 - k)))
    → FaithfulParts k (answer cs (x, y))
unfolding answer
parts_apart k [] x y l s h =
    let p = h tt in
    let small = joined_small k x y l p.0 p.1 in
    record {
      whole = record { number = omega arith; value = omega arith };
      low = λ u v e. let q : ◌≡◌ {A = ℕ × ℕ} (x, y) (u, v) = cc in low_part k x y l p.0 p.1 ∙ ap (λ (r : ℕ × ℕ). r.0) q;
      high = λ u v e. let q : ◌≡◌ {A = ℕ × ℕ} (x, y) (u, v) = cc in high_part k x y l p.0 p.1 ∙ ap (λ (r : ℕ × ℕ). r.1) q;
    }
parts_apart k (refuse true m j ∷ cs) x y l s h =
    let small = s.0 in
    record {
      whole = record { number = omega arith; value = omega arith };
      low = λ u v e. let z : ◌≡◌ {A = ℕ} 0 1 = cc in absurd (omega arith);
      high = λ u v e. let z : ◌≡◌ {A = ℕ} 0 1 = cc in absurd (omega arith);
    }
parts_apart k (refuse false m j ∷ cs) x y l s h = parts_apart k cs x y l s.1 (λ n. h (refl, n))
