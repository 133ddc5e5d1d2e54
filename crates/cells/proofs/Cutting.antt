-- A record cut into pieces of bits: four bytes from any byte on, and the bits of one word from any bit on, with 0 after the record's end.
-- Assumes nothing.
use mathlib.Core.Bool.{Bool}
use mathlib.Core.List.{List, [], ◌∷◌, ◌++◌}
use mathlib.Core.Path.{◌≡◌, refl, sym, ap, ap₂, ◌∙◌}
use Prim.Native.Nat.{ℕ, ◌+◌, ◌-◌, ◌*◌, ◌/◌, ◌%◌, ◌^◌, ◌≤◌, ◌<◌}
use native.Mathlib.Nat.{lt_of_lt_of_le}
use native.Mathlib.Omega.{arith}
use lib.ListN.{take, drop, get_or, length-append}
use lib.Pow.{pow_mono}
use lib.Seq.{take_at, drop_at, drop-drop, get_or-drop}
use Rattle.cells.specs.Cells.{first, rest, bit, number, cells, fit}
use Rattle.cells.specs.Bytes.{bits}
use Rattle.cells.proofs.Numbers.{length_cells, number_lt, number_cells, number_append, cells_of, cells_part}
use Rattle.cells.proofs.Bytes.{drop_bits}
use Rattle.cells.proofs.Fits.{fit_take, length_fit, fit_add}

-- the first byte of a record, 0 where it has none
fit_byte : (l : List ℕ) → fit 8 (bits l) ≡ cells 8 (get_or l 0 0)
unfolding fit bits
fit_byte [] = unfold first rest cells bit in refl
fit_byte (b ∷ l) =
    fit_take 8 (cells 8 b ++ bits l) (omega (arith, length-append (cells 8 b) (bits l), length_cells 8 b))
    ∙ take_at (cells 8 b) (bits l) 8 (length_cells 8 b)

-- one more byte
pub four_step : (l : List ℕ) (k j : ℕ) → get_or l (k + j) 0 < 256
    → number (fit (8 * (j + 1)) (bits (drop k l))) ≡ number (fit (8 * j) (bits (drop k l))) * 256 + get_or l (k + j) 0
four_step l k j h =
    let x = bits (drop k l) in
    let n : 8 * (j + 1) ≡ 8 * j + 8 = omega arith in
    let d : drop (8 * j) x ≡ bits (drop (k + j) l) = drop_bits j (drop k l) ∙ ap bits (drop-drop j k l) in
    let g : get_or (drop (k + j) l) 0 0 ≡ get_or l (k + j) 0 = get_or-drop (k + j) l 0 0 ∙ ap (λ (m : ℕ). get_or l m 0) (omega arith) in
    let b : fit 8 (drop (8 * j) x) ≡ cells 8 (get_or l (k + j) 0) = ap (fit 8) d ∙ fit_byte (drop (k + j) l) ∙ ap (cells 8) g in
    ap number (ap (λ (m : ℕ). fit m x) n ∙ fit_add (8 * j) 8 x)
    ∙ number_append (fit (8 * j) x) (fit 8 (drop (8 * j) x))
    ∙ ap₂ (λ (m y : ℕ). number (fit (8 * j) x) * 2 ^ m + y) (length_fit 8 (drop (8 * j) x))
    (ap number b ∙ number_cells 8 (get_or l (k + j) 0) h)

pub four_lt : (x : List Bool) (j : ℕ) → j ≤ 4 → number (fit (8 * j) x) < 2 ^ 32
four_lt x j h = lt_of_lt_of_le (number_lt (fit (8 * j) x)) (pow_mono {j = 32} (omega (arith, length_fit (8 * j) x)))

-- `count` bits of a row of 32, after a and before s others
cut : (x : List Bool) (a count s : ℕ) → a + (count + s) ≡ 32 → cells count (number (fit 32 x) / 2 ^ s) ≡ fit count (drop a x)
cut x a count s e =
    let v = number (fit 32 x) in
    let y = drop a x in
    sym (cells_part a count s v)
    ∙ ap (λ (l : List Bool). take count (drop a l))
    (ap (λ (m : ℕ). cells m v) e ∙ cells_of 32 (fit 32 x) (length_fit 32 x) ∙ ap (λ (m : ℕ). fit m x) (sym e) ∙ fit_add a (count + s) x)
    ∙ ap (take count) (drop_at (fit a x) (fit (count + s) y) a (length_fit a x) ∙ fit_add count s y)
    ∙ take_at (fit count y) (fit s (drop count y)) count (length_fit count y)

pub cut_at : (l : List ℕ) (at count v : ℕ) → count ≤ 25 → v ≡ number (fit 32 (bits (drop (at / 8) l)))
    → cells count (v / 2 ^ (32 - at % 8 - count)) ≡ fit count (drop at (bits l))
cut_at l at count v h e =
    let s = 32 - at % 8 - count in
    let k : 8 * (at / 8) + at % 8 ≡ at = omega arith in
    ap (λ (y : ℕ). cells count (y / 2 ^ s)) e
    ∙ cut (bits (drop (at / 8) l)) (at % 8) count s (omega arith)
    ∙ ap (λ (y : List Bool). fit count (drop (at % 8) y)) (sym (drop_bits (at / 8) l))
    ∙ ap (fit count) (drop-drop (at % 8) (8 * (at / 8)) (bits l) ∙ ap (λ (m : ℕ). drop m (bits l)) k)
