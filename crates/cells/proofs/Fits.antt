-- So many cells of some, with 0 after them; cells of which none is set; bytes that are all alike.
-- Assumes nothing.
use mathlib.Core.Bool.{Bool, true, false, not, ◌&&◌, ◌||◌}
use mathlib.Core.List.{List, [], ◌∷◌, ◌++◌}
use mathlib.Core.Path.{◌≡◌, refl, sym, ap, ap₂, ◌∙◌}
use Prim.Native.Nat.{ℕ, zero, suc, ◌+◌, ◌-◌, ◌*◌, ◌^◌, ◌≤◌}
use native.Mathlib.Nat.{zero-add, suc-add, suc-sub-suc, sub-zero, le_of_suc-le-suc, not-suc-le-zero}
use native.Mathlib.Omega.{arith}
use borrow.Author.Tests.{ne_eqb}
use lib.Dec.{eqb}
use lib.ListN.{length, take, drop, replicate, length-drop, length-replicate, replicate-append-replicate}
use lib.Pow.{pow_pos}
use lib.Seq.{drop-nil, length-take-le, take-add, take-append-le, drop-append-le}
use Rattle.cells.specs.Cells.{first, rest, number, cells, fit, some_set}
use Rattle.cells.specs.Bytes.{bits, bytes, Bytes, zeros}
use Rattle.cells.proofs.Numbers.{number_cells, number_append, cells_of}
use Rattle.cells.proofs.Bits.{cells_zero}

-- ---- n cells of some cells

pub length_fit : (n : ℕ) (l : List Bool) → length (fit n l) ≡ n
unfolding fit
length_fit zero l = refl
length_fit (suc n) l = ap suc (length_fit n (rest l))

fit_nil : (n : ℕ) → fit n [] ≡ replicate n false
unfolding fit first rest
fit_nil zero = refl
fit_nil (suc n) = ap (λ l. false ∷ l) (fit_nil n)

pub fit_pad : (n : ℕ) (bits : List Bool) → length bits ≤ n → fit n bits ≡ bits ++ replicate (n - length bits) false
unfolding fit first rest
fit_pad n [] h = rw sub-zero (fit_nil n)
fit_pad zero (b ∷ bits) h = absurd (not-suc-le-zero h)
fit_pad (suc n) (b ∷ bits) h = rw suc-sub-suc (ap (λ l. b ∷ l) (fit_pad n bits (le_of_suc-le-suc h)))

pub fit_take : (n : ℕ) (bits : List Bool) → n ≤ length bits → fit n bits ≡ take n bits
unfolding fit first rest
fit_take zero bits h = refl
fit_take (suc n) [] h = absurd (not-suc-le-zero h)
fit_take (suc n) (b ∷ bits) h = ap (λ l. b ∷ l) (fit_take n bits (le_of_suc-le-suc h))

drop_rest : (n : ℕ) (l : List Bool) → drop n (rest l) ≡ drop (suc n) l
unfolding rest
drop_rest n [] = drop-nil n
drop_rest n (b ∷ l) = refl

pub fit_add : (m n : ℕ) (l : List Bool) → fit (m + n) l ≡ fit m l ++ fit n (drop m l)
unfolding fit
fit_add zero n l = ap (λ (k : ℕ). fit k l) (zero-add n)
fit_add (suc m) n l = rw (suc-add m n, fit_add m n (rest l), drop_rest m l)

-- as a number
pub number_fit : (n : ℕ) (l : List Bool) → length l ≤ n → number (fit n l) ≡ number l * 2 ^ (n - length l)
number_fit n l h =
    let m : ℕ = n - length l in
    ap number (fit_pad n l h) ∙ number_append l (replicate m false)
    ∙ rw (length-replicate m false, ← cells_zero m, number_cells m 0 (pow_pos m)) (omega arith)

-- ---- no cell set

some_set_append : (a b : List Bool) → some_set (a ++ b) ≡ (some_set a || some_set b)
unfolding some_set
some_set_append [] b = refl
some_set_append (true ∷ a) b = refl
some_set_append (false ∷ a) b = some_set_append a b

some_set_number : (l : List Bool) → some_set l ≡ not (eqb (number l) 0)
unfolding some_set number
some_set_number [] = refl
some_set_number (true ∷ l) = sym (ap not (ne_eqb (2 ^ length l + number l) 0 (λ e. let p = pow_pos (length l) in absurd (omega arith))))
some_set_number (false ∷ l) =
    let e : number l ≡ 0 + number l = omega arith in
    some_set_number l ∙ ap (λ (n : ℕ). not (eqb n 0)) e

pub drop_clear : (j : ℕ) (l : List Bool) → some_set l ≡ false → some_set (drop j l) ≡ false
unfolding some_set
drop_clear zero l e = e
drop_clear (suc j) [] e = refl
drop_clear (suc j) (true ∷ l) e = let z : ◌≡◌ {A = ℕ} 0 1 = cc in absurd (omega arith)
drop_clear (suc j) (false ∷ l) e = drop_clear j l e

-- cells without a set one after others
pub spare_clear : (j : ℕ) (r f : List Bool) → some_set f ≡ false → some_set (drop j (r ++ f)) ≡ some_set (drop j r)
unfolding some_set
spare_clear zero r f e = some_set_append r f ∙ ap (λ (t : Bool). some_set r || t) e ∙ or_false (some_set r)
  where
    or_false : (b : Bool) → (b || false) ≡ b
    or_false true = refl
    or_false false = refl
spare_clear (suc j) [] f e = drop_clear (suc j) f e
spare_clear (suc j) (c ∷ r) f e = spare_clear j r f e

-- where no cell is set, as good as none are there
fit_clear : (n : ℕ) (l : List Bool) → some_set l ≡ false → fit n [] ≡ fit n l
unfolding fit some_set first rest
fit_clear zero l h = refl
fit_clear (suc n) [] h = refl
fit_clear (suc n) (true ∷ l) h = let z : ◌≡◌ {A = ℕ} 0 1 = cc in absurd (omega arith)
fit_clear (suc n) (false ∷ l) h = ap (λ (r : List Bool). false ∷ r) (fit_clear n l h)

-- bits whose spare ones are 0 are their first ones and 0 after them
pub fit_spare : (n k : ℕ) (l : List Bool) → some_set (drop k l) ≡ false → fit n (take k l) ≡ fit n l
unfolding fit first rest
fit_spare zero k l h = refl
fit_spare (suc n) zero l h = fit_clear (suc n) l h
fit_spare (suc n) (suc k) [] h = refl
fit_spare (suc n) (suc k) (b ∷ l) h = ap (λ (r : List Bool). b ∷ r) (fit_spare n k l h)

-- bits and 0 after them: none of the others is set
pub some_set_fit : (n k : ℕ) (l : List Bool) → length l ≤ k → some_set (drop k (fit n l)) ≡ false
unfolding fit some_set first rest
some_set_fit zero k l h = ap some_set (drop-nil k)
some_set_fit (suc n) zero [] h = some_set_fit n zero [] h
some_set_fit (suc n) zero (b ∷ l) h = absurd (omega arith)
some_set_fit (suc n) (suc k) [] h = some_set_fit n k [] (omega arith)
some_set_fit (suc n) (suc k) (b ∷ l) h = some_set_fit n k l (omega arith)

-- ---- bytes of cells

pub bits_front : (k : ℕ) (l : List Bool) → 8 * k ≤ length l → bits (bytes k l) ≡ take (8 * k) l
unfolding bits bytes
bits_front zero l h = refl
bits_front (suc k) l h =
    let e : 8 + 8 * k ≡ 8 * suc k = omega arith in
    ap₂ (λ (a b : List Bool). a ++ b)
    (cells_of 8 (take 8 l) (length-take-le 8 l (omega arith)))
    (bits_front k (drop 8 l) (omega (arith, length-drop 8 l)))
    ∙ sym (take-add 8 (8 * k) l) ∙ ap (λ (j : ℕ). take j l) e

pub take_bytes : (k m : ℕ) (l : List Bool) → k ≤ m → take k (bytes m l) ≡ bytes k l
unfolding bytes
take_bytes zero m l h = refl
take_bytes (suc k) zero l h = absurd (omega arith)
take_bytes (suc k) (suc m) l h = ap (λ (r : List ℕ). number (take 8 l) ∷ r) (take_bytes k m (drop 8 l) (omega arith))

pub bytes_front : (k : ℕ) (r f : List Bool) → 8 * k ≤ length r → bytes k (r ++ f) ≡ bytes k r
unfolding bytes
bytes_front zero r f h = refl
bytes_front (suc k) r f h =
    ap₂ (λ (x : ℕ) (l : List ℕ). x ∷ l) (ap number (take-append-le 8 r f (omega arith)))
    (ap (bytes k) (drop-append-le 8 r f (omega arith)) ∙ bytes_front k (drop 8 r) f (omega (arith, length-drop 8 r)))

pub not_not : (t : Bool) → not (not t) ≡ t
not_not true = refl
not_not false = refl

-- bytes are 0 exactly where none of their cells is set
pub zeros_bits : (l : List ℕ) → Bytes l → zeros l ≡ not (some_set (bits l))
unfolding zeros bits
zeros_bits [] h = unfold some_set in refl
zeros_bits (b ∷ l) h =
    ap₂ (λ (s t : Bool). s && t)
    (sym (not_not (eqb b 0)) ∙ ap not (sym (some_set_number (cells 8 b) ∙ ap (λ (n : ℕ). not (eqb n 0)) (number_cells 8 b (h 0)))))
    (zeros_bits l (λ i. h (suc i)))
    ∙ neither (some_set (cells 8 b)) (some_set (bits l)) ∙ ap not (sym (some_set_append (cells 8 b) (bits l)))
  where
    neither : (s t : Bool) → (not s && not t) ≡ not (s || t)
    neither true t = refl
    neither false t = refl

pub zero_bits : (m : ℕ) → some_set (bits (replicate m 0)) ≡ false
unfolding bits
zero_bits zero = unfold some_set in refl
zero_bits (suc m) =
    some_set_append (cells 8 0) (bits (replicate m 0)) ∙ ap₂ (λ (s t : Bool). s || t) (some_set_number (cells 8 0) ∙ ap (λ (n : ℕ). not (eqb n 0)) (number_cells 8 0 (omega arith))) (zero_bits m)

-- ---- bytes that are all alike

pub bits_alike : (n b : ℕ) (c : Bool) → cells 8 b ≡ replicate 8 c → bits (replicate n b) ≡ replicate (8 * n) c
unfolding bits
bits_alike zero b c e = refl
bits_alike (suc n) b c e =
    let k : 8 + 8 * n ≡ 8 * suc n = omega arith in
    ap₂ (λ (x y : List Bool). x ++ y) e (bits_alike n b c e) ∙ replicate-append-replicate 8 (8 * n) c ∙ ap (λ (m : ℕ). replicate m c) k
