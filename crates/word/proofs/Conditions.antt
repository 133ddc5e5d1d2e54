-- The conditions of refusals 10 and 11 in document 01's words: some bit from a place on is set, and some cell and the next are.
-- Assumes nothing.
use mathlib.Core.Bool.{Bool, true, false}
use mathlib.Core.List.{List, [], ◌∷◌}
use mathlib.Core.Logic.{◌↔◌}
use mathlib.Core.Path.{◌≡◌, refl, ap, ◌∙◌, subst}
use Prim.Native.Nat.{ℕ, zero, suc, ◌+◌, ◌-◌, ◌*◌, ◌^◌, ◌≤◌, ◌<◌}
use native.Mathlib.Nat.{two-pow-succ, lt_of_not-le, not-le_of_lt}
use native.Mathlib.Omega.{arith}
use lib.Count.{leading_top}
use lib.Dec.{T}
use lib.ListN.{length, get_or}
use lib.Pow.{pow_mono, pow_pos}
use Rattle.cells.specs.Cells.{first, bit}
use Rattle.cells.proofs.Bits.{bit_high}
use Rattle.cells.proofs.Tests.{holds}
use Rattle.word.specs.Word.{sparse}
use Rattle.word.proofs.SetCells.{top_bit}

-- ---- a high bit

below_power : (x : ℕ) → x < 2 ^ x
below_power zero = omega arith
below_power (suc x) = omega (arith, below_power x, two-pow-succ x)

-- a number that reaches 2 ^ n has its first set bit there or above
some_high : (n x : ℕ) → 2 ^ n ≤ x → (i : ℕ) × (n ≤ i) × T (bit x i)
some_high n x h =
    let t = leading_top x x (omega (arith, pow_pos n)) (below_power x) in
    let j : ℕ = t.0 in
    let r : x - 2 ^ j < 2 ^ j = omega (arith, t.2, t.3, two-pow-succ j) in
    let e : x ≡ 1 * 2 ^ j + (x - 2 ^ j) = omega (arith, t.2) in
    let l : n < suc j = lt_of_not-le (λ g. not-le_of_lt t.3 (omega (arith, pow_mono g))) in
    (j, omega arith, holds (bit x j) (ap (λ (y : ℕ). bit y j) e ∙ top_bit j (x - 2 ^ j) r))

-- one that does not has none there
high_reaches : (n x i : ℕ) → n ≤ i → T (bit x i) → 2 ^ n ≤ x
high_reaches n x i l t =
    let h : 2 ^ n < suc x = lt_of_not-le (λ g. subst T (bit_high x n i g l) t) in
    omega arith

pub high_bit : (n x : ℕ) → (2 ^ n ≤ x) ↔ ((i : ℕ) × (n ≤ i) × T (bit x i))
high_bit n x = (some_high n x, λ h. high_reaches n x h.0 h.1 h.2)

-- ---- neighbours

abbrev Pair : List Bool → Type 0
Pair w = (c : ℕ) × (suc c < length w) × T (get_or w c false) × T (get_or w (suc c) false)

-- one place on
later : (a : Bool) (cs : List Bool) → Pair cs → Pair (a ∷ cs)
later a cs p = (suc p.0, omega (arith, p.1), p.2, p.3)

some_pair : (w : List Bool) → sparse w ≡ false → Pair w
unfolding sparse first
some_pair [] e = absurd (subst T e tt)
some_pair (true ∷ []) e = absurd (subst T e tt)
some_pair (true ∷ true ∷ cs) e = (0, omega arith, tt, tt)
some_pair (true ∷ false ∷ cs) e = later true (false ∷ cs) (some_pair (false ∷ cs) e)
some_pair (false ∷ cs) e = later false cs (some_pair cs e)

pair_told : (w : List Bool) (c : ℕ) → T (get_or w c false) → T (get_or w (suc c) false) → sparse w ≡ false
unfolding sparse first
pair_told [] c s t = absurd s
pair_told (a ∷ []) c s t = absurd t
pair_told (true ∷ true ∷ cs) c s t = refl
pair_told (true ∷ false ∷ cs) zero s t = absurd t
pair_told (true ∷ false ∷ cs) (suc c) s t = pair_told (false ∷ cs) c s t
pair_told (false ∷ b ∷ cs) zero s t = absurd s
pair_told (false ∷ b ∷ cs) (suc c) s t = pair_told (b ∷ cs) c s t

pub neighbours : (w : List Bool) → (sparse w ≡ false) ↔ Pair w
neighbours w = (some_pair w, λ p. pair_told w p.0 p.2 p.3)
