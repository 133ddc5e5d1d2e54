-- Bytes of 0: those whose sum is 0. Assumes nothing.
use mathlib.Core.Bool.{Bool, ◌&&◌}
use mathlib.Core.List.{List, [], ◌∷◌}
use mathlib.Core.Path.{◌≡◌, refl, sym, ap, ◌∙◌}
use Prim.Native.Nat.{ℕ, zero, suc, ◌+◌}
use native.Mathlib.Nat.{zero-add, suc-add}
use lib.Dec.{eqb, eqb-suc-zero}
use Rattle.std.specs.List.{sum}
use Rattle.std.proofs.lemmas.List.Sums.{sum_by-cons}
use Rattle.cells.specs.Bytes.{zeros}

sum_zero : (a b : ℕ) → eqb (a + b) 0 ≡ (eqb a 0 && eqb b 0)
sum_zero zero b = ap (λ (n : ℕ). eqb n 0) (zero-add b)
sum_zero (suc a) b = ap (λ (n : ℕ). eqb n 0) (suc-add a b) ∙ eqb-suc-zero (a + b) ∙ sym (ap (λ (t : Bool). t && eqb b 0) (eqb-suc-zero a))

pub zeros_sum : (l : List ℕ) → eqb (sum l) 0 ≡ zeros l
unfolding zeros
zeros_sum [] = refl
zeros_sum (x ∷ l) = ap (λ (n : ℕ). eqb n 0) (sum_by-cons (λ y. y) x l) ∙ sum_zero x (sum l) ∙ ap (λ (t : Bool). eqb x 0 && t) (zeros_sum l)
