-- The law on which a word's model in src/word.rt rests, that the cells of a number write it again. It stands here with its proof, since a
-- model may cite no file of proofs/; the other laws of numbers and cells are in proofs/Numbers.antt.
-- Assumes nothing.
use mathlib.Core.Bool.{Bool, true, false, cond}
use mathlib.Core.Path.{◌≡◌, refl, sym, ap, ◌∙◌}
use Prim.Native.Nat.{ℕ, zero, suc, ◌*◌, ◌/◌, ◌%◌, ◌^◌, ◌<◌}
use native.Mathlib.Nat.{one-mul, zero-mul, mod-eq_of_lt}
use native.Mathlib.Numerals.{one-add}
use native.Mathlib.Omega.{arith}
use lib.Dec.{eqb}
use lib.ListN.{length}
use lib.Pow.{mod-pow-add}
use Rattle.cells.specs.Cells.{number, bit, cells}

-- a cell's share of a number, as a product
pub digit_times : (c : Bool) (p : ℕ) → cond c p 0 ≡ cond c 1 0 * p
digit_times true p = sym (one-mul p)
digit_times false p = sym (zero-mul p)

digit_of : (r : ℕ) → r < 2 → cond (eqb r 1) 1 0 ≡ r
digit_of zero h = refl
digit_of (suc zero) h = refl
digit_of (suc (suc r)) h = absurd (omega arith)

pub digit_bit : (n x : ℕ) → cond (bit x n) 1 0 ≡ x / 2 ^ n % 2
unfolding bit
digit_bit n x = digit_of (x / 2 ^ n % 2) (omega arith)

pub length_cells : (n x : ℕ) → length (cells n x) ≡ n
unfolding cells
length_cells zero x = refl
length_cells (suc n) x = ap suc (length_cells n x)

pub number_cells_mod : (n x : ℕ) → number (cells n x) ≡ x % 2 ^ n
unfolding cells number
number_cells_mod zero x = omega arith
number_cells_mod (suc n) x =
    rw (length_cells n x, digit_times (bit x n) (2 ^ n), digit_bit n x, number_cells_mod n x)
    (rw one-add at (sym (mod-pow-add x 1 n)))

pub number_cells : (n x : ℕ) → x < 2 ^ n → number (cells n x) ≡ x
number_cells n x h = number_cells_mod n x ∙ mod-eq_of_lt h
