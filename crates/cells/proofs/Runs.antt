-- The number that a run of bytes writes, by parts and byte by byte.
-- Assumes nothing.
use mathlib.Core.List.{List, [], ◌∷◌, ◌++◌, append-nil}
use mathlib.Core.Path.{◌≡◌, ap, ap₂, ◌∙◌}
use Prim.Native.Nat.{ℕ, suc, ◌+◌, ◌*◌, ◌^◌, ◌≤◌, ◌<◌}
use native.Mathlib.Nat.{lt_of_lt_of_le, min-le_left}
use native.Mathlib.Omega.{arith}
use lib.ListN.{length, take, drop, get_or, length-take, length-drop}
use lib.Pow.{pow_mono}
use lib.Seq.{length-take-le, drop-drop, take-add, drop-cons}
use Rattle.cells.specs.Cells.{number, cells}
use Rattle.cells.specs.Bytes.{bits, Bytes}
use Rattle.cells.proofs.Numbers.{length_cells, number_lt, number_cells, number_append}
use Rattle.cells.proofs.Bytes.{length_bits, bits_append}

-- j bytes, of at most n, write a number of 8 * n binary digits
pub window_lt : (l : List ℕ) (j n : ℕ) → j ≤ n → number (bits (take j l)) < 2 ^ (8 * n)
window_lt l j n h =
    lt_of_lt_of_le (number_lt (bits (take j l)))
    (pow_mono (let m = min-le_left j (length l) in omega (arith, length_bits (take j l), length-take j l)))

-- a window is its first m bytes and the n after them
pub window_join : (l : List ℕ) (k m n : ℕ) → k + m + n ≤ length l
    → number (bits (take (m + n) (drop k l))) ≡ number (bits (take m (drop k l))) * 2 ^ (8 * n) + number (bits (take n (drop (k + m) l)))
window_join l k m n h =
    let e : length (bits (take n (drop (k + m) l))) ≡ 8 * n =
    length_bits (take n (drop (k + m) l)) ∙ ap (λ (x : ℕ). 8 * x) (length-take-le n (drop (k + m) l) (rw length-drop (omega arith))) in
    ap (λ (r : List ℕ). number (bits r)) (take-add m n (drop k l) ∙ ap (λ (r : List ℕ). take m (drop k l) ++ take n r) (drop-drop m k l))
    ∙ ap number (bits_append (take m (drop k l)) (take n (drop (k + m) l)))
    ∙ number_append (bits (take m (drop k l))) (bits (take n (drop (k + m) l)))
    ∙ ap (λ (x : ℕ). number (bits (take m (drop k l))) * 2 ^ x + number (bits (take n (drop (k + m) l)))) e

-- one byte more
pub number_more : (l : List ℕ) (i : ℕ) → Bytes l → i < length l → number (bits (take (i + 1) l)) ≡ number (bits (take i l)) * 256 + get_or l i 0
unfolding bits
number_more l i b h =
    let t : drop i l ≡ get_or l i 0 ∷ drop (suc i) l = drop-cons l i 0 h in
    ap (λ (r : List ℕ). number (bits r)) (take-add i 1 l ∙ ap (λ (r : List ℕ). take i l ++ take 1 r) t)
    ∙ ap number (bits_append (take i l) (get_or l i 0 ∷ []))
    ∙ number_append (bits (take i l)) (cells 8 (get_or l i 0) ++ [])
    ∙ ap₂ (λ (x y : ℕ). number (bits (take i l)) * 2 ^ x + y)
    (ap length (append-nil (cells 8 (get_or l i 0))) ∙ length_cells 8 (get_or l i 0))
    (ap number (append-nil (cells 8 (get_or l i 0))) ∙ number_cells 8 (get_or l i 0) (b i))
