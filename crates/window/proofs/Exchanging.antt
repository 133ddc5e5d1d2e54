-- A field of a number replaced by another, and exchanged for it by what the two differ, modulo 2 ^ 64.
-- Assumes nothing.
use mathlib.Core.Path.{◌≡◌, ap, sym, subst, ◌∙◌}
use Prim.Native.Nat.{ℕ, ◌+◌, ◌-◌, ◌*◌, ◌/◌, ◌%◌, ◌^◌, ◌<◌, ◌≤◌}
use native.Mathlib.Nat.{mod-lt, mod-le, div-le_self}
use native.Mathlib.Omega.{arith}
use lib.Arith.{digits_lt}
use lib.Pow.{shr_lt, pow-add, pow_pos, split, mod-pow-add}
use Rattle.std.proofs.lemmas.Nat.{mul-mod_first}

-- old is the parts x and y around a field f, at p; v takes the field's place
difference : (old f v p x y : ℕ) → f ≤ 2 ^ 64 → f * p + (x + y) ≡ old → x + (v * p + y) < 2 ^ 64
    → (old + (v + (2 ^ 64 - f)) % 2 ^ 64 * p % 2 ^ 64) % 2 ^ 64 ≡ x + (v * p + y)
difference old f v p x y hf eo h =
    let d = 2 ^ 64 - f in
    let e : (v + d) % 2 ^ 64 * p % 2 ^ 64 ≡ (v + d) * p % 2 ^ 64 = mul-mod_first (v + d) p (2 ^ 64) in
    let sum : d + f ≡ 2 ^ 64 = omega arith in
    let k : (d + f) * p ≡ 2 ^ 64 * p = ap (λ (n : ℕ). n * p) sum in
    let w : (v + d) * p ≡ v * p + d * p = omega arith in
    omega (arith, e, k, w)

module _ (old s m : ℕ) (ho : old < 2 ^ 64) where
  -- a number is the bits above, the m that are replaced, and the s below
  pub parts : old / 2 ^ (m + s) * 2 ^ (m + s) + (old / 2 ^ s % 2 ^ m * 2 ^ s + old % 2 ^ s) ≡ old
  parts = ap (λ (x : ℕ). old / 2 ^ (m + s) * 2 ^ (m + s) + x) (sym (mod-pow-add old m s)) ∙ split old (m + s)

  -- with m others in their place it still has 64 bits
  pub whole : (v : ℕ) → v < 2 ^ m → m + s ≤ 64 → old / 2 ^ (m + s) * 2 ^ (m + s) + (v * 2 ^ s + old % 2 ^ s) < 2 ^ 64
  whole v hv h =
      let e : 64 ≡ 64 - (m + s) + (m + s) = omega arith in
      let l : v * 2 ^ s + old % 2 ^ s < 2 ^ (m + s) =
      subst (λ (n : ℕ). v * 2 ^ s + old % 2 ^ s < n) (sym (pow-add 2 m s)) (digits_lt hv (mod-lt old (pow_pos s))) in
      subst (λ (n : ℕ). old / 2 ^ (m + s) * 2 ^ (m + s) + (v * 2 ^ s + old % 2 ^ s) < n)
      (sym (ap (λ (n : ℕ). 2 ^ n) e ∙ pow-add 2 (64 - (m + s)) (m + s)))
      (digits_lt (shr_lt (64 - (m + s)) (m + s) (subst (λ (n : ℕ). old < 2 ^ n) e ho)) l)

  pub field_exchanged : (v : ℕ) → v < 2 ^ m → m + s ≤ 64
      → (old + (v + (2 ^ 64 - old / 2 ^ s % 2 ^ m)) % 2 ^ 64 * 2 ^ s % 2 ^ 64) % 2 ^ 64
      ≡ old / 2 ^ (m + s) * 2 ^ (m + s) + (v * 2 ^ s + old % 2 ^ s)
  field_exchanged v hv h =
      difference old (old / 2 ^ s % 2 ^ m) v (2 ^ s) (old / 2 ^ (m + s) * 2 ^ (m + s)) (old % 2 ^ s)
      (omega (arith, mod-le (old / 2 ^ s) (2 ^ m), div-le_self old (2 ^ s), ho)) (omega (arith, parts)) (whole v hv h)
