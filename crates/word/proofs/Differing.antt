-- The cells in which two words differ, counted: where no cell is cleared, they are the new ones. Assumes nothing.
use mathlib.Core.Bool.{Bool, true, false, cond, not, xor, ◌&&◌, ◌||◌}
use mathlib.Core.List.{List, [], ◌∷◌}
use mathlib.Core.Path.{◌≡◌, refl, sym, ap, ◌∙◌}
use Prim.Native.Nat.{ℕ, zero, suc, ◌+◌, ◌*◌, ◌^◌, ◌<◌}
use native.Mathlib.Omega.{arith}
use lib.Bits.{bit_xor, xor_lt}
use lib.Count.{ones, ones_cat}
use lib.Dec.{T}
use lib.ListN.{length}
use mir.Facts.{and_yes}
use Rattle.cells.specs.Cells.{first, rest, number, bit, cells, kept, set_cells, newly_set, pulses}
use Rattle.cells.proofs.Numbers.{number_lt, number_cells, length_cells}
use Rattle.cells.proofs.Bits.{bit_of_xor}
use Rattle.cells.proofs.Pulses.{pulses_newly}
use Rattle.word.proofs.Counting.{ones_digit}

-- the ones of a number are the set cells that write it
ones_number : (cs : List Bool) → ones (number cs) ≡ set_cells cs
unfolding set_cells number
ones_number [] = ones_digit false
ones_number (c ∷ cs) =
    ap (λ (x : ℕ). ones (x + number cs)) (worth c (2 ^ length cs))
    ∙ ones_cat (length cs) (cond c 1 0) (number cs) (number_lt cs) ∙ omega (arith, ones_digit c, ones_number cs)
  where
    worth : (c : Bool) (n : ℕ) → cond c n 0 ≡ cond c 1 0 * n
    worth true n = omega arith
    worth false n = omega arith

-- a is the cell before, b the cell after
differ_new : (a b : Bool) → T (not a || b) → xor a b ≡ (not a && b)
unfolding xor
differ_new true true t = refl
differ_new true false t = absurd t
differ_new false true t = refl
differ_new false false t = refl

xor_newly : (n a b : ℕ) → T (kept (cells n a) (cells n b)) → set_cells (cells n (bit_xor a b)) ≡ newly_set (cells n a) (cells n b)
unfolding set_cells newly_set kept cells first rest
xor_newly zero a b k = refl
xor_newly (suc n) a b k =
    let p = and_yes (not (bit a n) || bit b n) (kept (cells n a) (cells n b)) k in
    rw (bit_of_xor a b n, differ_new (bit a n) (bit b n) p.0, xor_newly n a b p.1)

pub differing : (a b : ℕ) → a < 2 ^ 46 → b < 2 ^ 46 → T (kept (cells 46 a) (cells 46 b)) → ones (bit_xor a b) ≡ pulses (cells 46 a) (cells 46 b)
differing a b ha hb k =
    ap ones (sym (number_cells 46 (bit_xor a b) (xor_lt 46 a b ha hb))) ∙ ones_number (cells 46 (bit_xor a b))
    ∙ xor_newly 46 a b k ∙ sym (pulses_newly (cells 46 a) (cells 46 b) (length_cells 46 b ∙ sym (length_cells 46 a)) k)
