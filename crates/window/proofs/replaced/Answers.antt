-- `window::replaced` meets its contract: the old bits are taken off, the new ones put on, and nothing is shifted out.
-- Assumes nothing.
use mathlib.Core.Path.{◌≡◌, ap, ◌∙◌}
use Prim.Native.Nat.{ℕ, ◌+◌, ◌*◌, ◌/◌, ◌%◌, ◌^◌, ◌<◌}
use native.Mathlib.Omega.{arith}
use Rattle.std.proofs.lemmas.Nat.{one_shl}
use Rattle.window.proofs.Exchanging.{parts, whole}
use Rattle.window.proofs.replaced.Goals as goal

-- the m bits above the s lowest, as the code takes them off, and what is left
left : (old s m : ℕ) → old < 2 ^ 64 → m < 64
    → old / 2 ^ s % (1 * 2 ^ m % 2 ^ 64) * 2 ^ s % 2 ^ 64 + (old / 2 ^ (m + s) * 2 ^ (m + s) + old % 2 ^ s) ≡ old
left old s m ho hm =
    ap (λ (x : ℕ). old / 2 ^ s % x * 2 ^ s % 2 ^ 64 + (old / 2 ^ (m + s) * 2 ^ (m + s) + old % 2 ^ s)) (one_shl m 64 hm)
    ∙ omega (arith, parts old s m ho)

pub overflow_add-result : goal.overflow_add-result
overflow_add-result c =
    let a = c.args in
    omega (
      arith,
      left a.old a.s a.count c.ranges.old.fits (omega arith),
      whole a.old a.s a.count c.ranges.old.fits a.v (omega arith) (omega arith),
    )

pub returns : goal.returns
returns c =
    let a = c.args in
    omega (
      arith,
      left a.old a.s a.count c.ranges.old.fits (omega arith),
      whole a.old a.s a.count c.ranges.old.fits a.v (omega arith) (omega arith),
    )
