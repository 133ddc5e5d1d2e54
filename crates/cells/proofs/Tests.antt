-- Tests and what they say, and a test of all numbers below a bound.
-- Assumes nothing.
use mathlib.Core.Bool.{Bool, true, false, ◌&&◌}
use mathlib.Core.Logic.{◌⊎◌, ⊎_elim}
use mathlib.Core.Path.{◌≡◌, refl, sym, subst}
use Prim.Native.Nat.{ℕ, zero, suc, ◌<◌}
use native.Mathlib.Nat.{eq-or-lt_of_le, le_of_suc-le-suc, not-suc-le-zero}
use lib.Dec.{T}
use mir.Facts.{and_yes}

pub is_true : (b : Bool) → T b → b ≡ true
is_true true t = refl
is_true false t = absurd t

pub holds : (b : Bool) → b ≡ true → T b
holds b e = subst T (sym e) tt

pub same_tests : (a b : Bool) → (a ≡ true → b ≡ true) → (b ≡ true → a ≡ true) → a ≡ b
same_tests true b f g = sym (f refl)
same_tests false true f g = g refl
same_tests false false f g = refl

pub lt_cases : {i n : ℕ} → i < suc n → (i ≡ n) ⊎ (i < n)
lt_cases l = eq-or-lt_of_le (le_of_suc-le-suc l)

-- the test f passes at each number below n
unfoldable pub all : (ℕ → Bool) → ℕ → Bool
all f zero = true
all f (suc n) = f n && all f n

-- one computed test tells the rule at each number
pub all_below : (f : ℕ → Bool) (n : ℕ) → T (all f n) → (k : ℕ) → k < n → T (f k)
unfolding all
all_below f zero t k h = absurd (not-suc-le-zero h)
all_below f (suc n) t k h =
    let p = and_yes (f n) (all f n) t in
    ⊎_elim (λ e. subst (λ (m : ℕ). T (f m)) (sym e) p.0) (λ l. all_below f n p.1 k l) (lt_cases h)
