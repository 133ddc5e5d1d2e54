-- Sums of signed numbers: how far from 0 they are; how long numbers are. Assumes nothing.
use mathlib.Core.Bool.{Bool, true, false}
use mathlib.Core.Path.{◌≡◌, refl}
use Prim.Native.Nat.{ℕ, suc, ◌+◌, ◌^◌, ◌≤◌, ◌<◌}
use native.Mathlib.Omega.{arith}
use borrow.Author.Tests.{ltb-true, ltb-false}
use lib.Dec.{ltb}
use lib.IntN.{ℤ, pos, negsuc, nat_abs, sub_ℕ, ◌+ℤ◌}
use mir.Facts.{to_z-of_z}
use mir.Syntax.{w64}
use mir.Val.{SFits}
use Rattle.std.proofs.lemmas.Grind.{common_steps}
use Rattle.text.proofs.Decimals.{decimal_32, signed_64}

-- a difference is no further from 0 than its two parts together
sub_far : (a b : ℕ) → nat_abs (sub_ℕ a b) ≤ a + b
sub_far a b = go (ltb a b) refl
  where
    go : (t : Bool) → ltb a b ≡ t → nat_abs (sub_ℕ a b) ≤ a + b
    go true e = let h = ltb-true a b e in rw e omega arith
    go false e = let h = ltb-false a b e in rw e omega arith

-- nor is a sum
pub far_sum : (y z : ℤ) → nat_abs (y +ℤ z) ≤ nat_abs y + nat_abs z
far_sum (pos a) (pos b) = omega arith
far_sum (pos a) (negsuc b) = sub_far a (suc b)
far_sum (negsuc a) (pos b) = let h = sub_far b (suc a) in omega arith
far_sum (negsuc a) (negsuc b) = omega arith

-- what is near 0 fits a width
pub near_fits : (z : ℤ) → nat_abs z < 2 ^ 63 → SFits w64 z
near_fits (pos n) h = record { sfits = omega (arith, h) }
near_fits (negsuc n) h = record { sfits = omega (arith, h) }

-- what a line's room is found by
pub ruleset room = (common_steps, to_z-of_z, decimal_32, signed_64)
