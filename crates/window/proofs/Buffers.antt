-- A buffer of zeros that bits were put into, from its first on: its bytes are those of the bits, with 0 after them. Assumes nothing.
use mathlib.Core.Bool.{Bool, true, false, not}
use mathlib.Core.List.{List, [], ◌∷◌, ◌++◌, append_assoc}
use mathlib.Core.Path.{◌≡◌, refl, sym, ap, ap₂, ◌∙◌, subst}
use Prim.Native.Nat.{ℕ, zero, suc, ◌+◌, ◌-◌, ◌*◌, ◌≤◌, ◌<◌}
use native.Mathlib.Nat.{sub-zero, zero-sub, suc-sub-suc}
use native.Mathlib.Omega.{arith}
use lib.Dec.{T}
use lib.ListN.{length, take, drop, get_or, set, replicate, length-replicate, length-append, length-drop}
use lib.Seq.{take_at, drop-drop, set_split, take-append-add, drop-append_seam, drop-append-le, drop-append-add}
use Rattle.cells.specs.Cells.{number, some_set}
use Rattle.cells.specs.Bytes.{bits, bytes, Bytes, zeros}
use Rattle.cells.proofs.Fits.{drop_clear, spare_clear, take_bytes, bytes_front, zeros_bits, zero_bits}
use Rattle.cells.proofs.Bytes.{length_bits, drop_bits, bytes_bits, bytes_add, get_d_bytes, Bytes-bytes, Bytes-zeros, Bytes-drop}
use Rattle.window.specs.Words.{splice, put_cells}
use Rattle.window.proofs.Words.{bits_put_cells, put_cells_more}

-- the cells after those of the bits
abbrev after_bits : ℕ → List Bool → List Bool
after_bits m r = drop (0 + length r) (bits (replicate m 0))

-- what is after the record's bytes is 0 exactly where no spare cell is set
pub buffer_spare : (m k : ℕ) (r : List Bool) → length r ≤ 8 * m → zeros (drop k (put_cells (replicate m 0) 0 r)) ≡ not (some_set (drop (8 * k) r))
buffer_spare m k r h =
    let b = put_cells (replicate m 0) 0 r in
    let e : bits b ≡ r ++ after_bits m r = bits_put_cells (replicate m 0) 0 r (let k : length (replicate m 0) ≡ m = length-replicate m zero in omega arith) ∙ unfold splice in refl in
    zeros_bits (drop k b) (Bytes-drop k b (Bytes-bytes (length (replicate m 0)) _))
    ∙ ap not
    (ap some_set (sym (drop_bits k b) ∙ ap (drop (8 * k)) e)
    ∙ spare_clear (8 * k) r (after_bits m r) (drop_clear (0 + length r) (bits (replicate m 0)) (zero_bits m)))

-- the record's bytes
pub buffer_record : (m k : ℕ) (r : List Bool) → 8 * k ≤ length r → k ≤ m → take k (put_cells (replicate m 0) 0 r) ≡ bytes k r
unfolding splice
buffer_record m k r h l =
    ap (λ (n : ℕ). take k (bytes n (r ++ after_bits m r))) (length-replicate m 0)
    ∙ take_bytes k m (r ++ after_bits m r) l ∙ bytes_front k r (after_bits m r) h

-- ---- zeros put after the bits change nothing

pub drop_replicate : (n k : ℕ) (b : Bool) → drop n (replicate k b) ≡ replicate (k - n) b
drop_replicate zero k b = ap (λ (m : ℕ). replicate m b) (sym (sub-zero k))
drop_replicate (suc n) zero b = ap (λ (m : ℕ). replicate m b) (sym (zero-sub (suc n)))
drop_replicate (suc n) (suc k) b = drop_replicate n k b ∙ ap (λ (m : ℕ). replicate m b) (sym (suc-sub-suc k n))

clear_front : (j : ℕ) (l : List Bool) → some_set l ≡ false → j ≤ length l → replicate j false ++ drop j l ≡ l
unfolding some_set
clear_front zero l e h = refl
clear_front (suc j) [] e h = absurd (omega arith)
clear_front (suc j) (true ∷ l) e h = absurd (subst T e tt)
clear_front (suc j) (false ∷ l) e h = ap (λ (r : List Bool). false ∷ r) (clear_front j l e (omega arith))

pub put_cells_zeros : (page : List ℕ) (a j : ℕ) (r : List Bool) → some_set (drop a (bits page)) ≡ false → a + (length r + j) ≤ 8 * length page
    → put_cells page a (r ++ replicate j false) ≡ put_cells page a r
unfolding splice
put_cells_zeros page a j r e h =
    let z = replicate j false in
    let l = bits page in
    let x = a + length r in
    let n : a + length (r ++ z) ≡ x + j = omega (arith, length-append r z, length-replicate j false) in
    let c : some_set (drop x l) ≡ false = ap some_set (sym (drop-drop (length r) a l)) ∙ drop_clear (length r) (drop a l) e in
    ap (λ (u : List Bool). bytes (length page) (take a l ++ u))
    (append_assoc r z (drop (a + length (r ++ z)) l)
    ∙ ap (λ (u : List Bool). r ++ u)
    (ap (λ (k : ℕ). z ++ drop k l) n
    ∙ ap (λ (u : List Bool). z ++ u) (sym (drop-drop j x l))
    ∙ clear_front j (drop x l) c (omega (arith, length-drop x l, length_bits page))))

-- ---- bits that go on in a second buffer, whose first byte is the one in which they end

take_clear : (j : ℕ) (l : List Bool) → some_set l ≡ false → j ≤ length l → take j l ≡ replicate j false
take_clear j l e h = ap (take j) (sym (clear_front j l e h)) ∙ take_at (replicate j false) (drop j l) j (length-replicate j false)

module _ (m : ℕ) (r : List Bool) (h : length r ≤ 8 * m) where
  abbrev blank : List ℕ
  blank = replicate m 0

  length_blank : length blank ≡ m
  length_blank = length-replicate m zero

  -- after the bits it holds 0
  pub buffer_clear : some_set (drop (length r) (bits (put_cells blank 0 r))) ≡ false
  buffer_clear =
      let e : bits (put_cells blank 0 r) ≡ r ++ after_bits m r = bits_put_cells blank 0 r (omega (arith, length_blank)) ∙ unfold splice in refl in
      ap (λ (l : List Bool). some_set (drop (length r) l)) e
      ∙ ap some_set (drop-append_seam r (after_bits m r)) ∙ drop_clear (0 + length r) (bits blank) (zero_bits m)

  -- byte k, where the bits end
  module _ (k : ℕ) (a : 8 * k ≤ length r) (b : length r < 8 * k + 8) (c : k < m) where
    abbrev rest : List Bool
    rest = drop (8 * k) r

    length_rest : length rest ≡ length r - 8 * k
    length_rest = length-drop (8 * k) r

    -- eight cells: the last bits, and 0
    eight : (j : ℕ) → 8 + j ≤ 8 * m + length rest → take 8 (rest ++ drop j (bits blank)) ≡ rest ++ replicate (8 - length rest) false
    eight j f =
        let n = 8 - length rest in
        let e : 8 ≡ length rest + n = omega (arith, length_rest) in
        ap (λ (i : ℕ). take i (rest ++ drop j (bits blank))) e
        ∙ take-append-add rest (drop j (bits blank)) n
        ∙ ap (λ (l : List Bool). rest ++ l)
        (take_clear n (drop j (bits blank)) (drop_clear j (bits blank) (zero_bits m)) (omega (arith, length-drop j (bits blank), length_bits blank, length_blank, length_rest)))

    -- a second buffer that begins with it holds the bits of it
    pub buffer_carry : set blank 0 (get_or (put_cells blank 0 r) k 0) ≡ put_cells blank 0 rest
    unfolding splice bytes
    buffer_carry =
        let x = r ++ after_bits m r in
        let y = rest ++ after_bits m rest in
        let v : get_or (put_cells blank 0 r) k 0 ≡ number (take 8 y) =
        get_d_bytes (length blank) x k (omega (arith, length_blank))
        ∙ ap (λ (l : List Bool). number (take 8 l)) (drop-append-le (8 * k) r (after_bits m r) a)
        ∙ ap number (eight (0 + length r) (omega (arith, length_rest)) ∙ sym (eight (0 + length rest) (omega arith))) in
        let z : drop 8 y ≡ bits (drop 1 blank) =
        let n = 8 - length rest in
        let e : 8 ≡ length rest + n = omega (arith, length_rest) in
        let f : 0 + length rest + n ≡ 8 * 1 = omega (arith, length_rest) in
        ap (λ (i : ℕ). drop i y) e ∙ drop-append-add rest (after_bits m rest) n
        ∙ drop-drop n (0 + length rest) (bits blank) ∙ ap (λ (i : ℕ). drop i (bits blank)) f ∙ drop_bits 1 blank in
        let t : Bytes (drop 1 blank) = Bytes-drop 1 blank (Bytes-zeros m) in
        let l : length (drop 1 blank) ≡ m - 1 = length-drop 1 blank ∙ ap (λ (i : ℕ). i - 1) length_blank in
        let o : length blank ≡ 1 + (m - 1) = omega (arith, length_blank) in
        set_split blank 0 (get_or (put_cells blank 0 r) k 0) (omega (arith, length_blank))
        ∙ ap (λ (w : ℕ). w ∷ drop 1 blank) v
        ∙ ap (λ (q : List ℕ). number (take 8 y) ∷ q) (sym (ap (bytes (m - 1)) z ∙ ap (λ (i : ℕ). bytes i (bits (drop 1 blank))) (sym l) ∙ bytes_bits (drop 1 blank) t))
        ∙ sym (ap (λ (i : ℕ). bytes i y) o ∙ bytes_add 1 (m - 1) y)

    -- the bytes of both, up to where the first ends and from there on
    pub buffer_seam : (n : ℕ) (q : List Bool) → k ≤ n → 8 * n ≤ length r + length q → n - k ≤ m
        → take k (put_cells blank 0 r) ++ take (n - k) (put_cells (set blank 0 (get_or (put_cells blank 0 r) k 0)) (length r - 8 * k) q) ≡ bytes n (r ++ q)
    buffer_seam n q d e f =
        let o : length r - 8 * k ≡ 0 + length rest = omega (arith, length_rest) in
        let g : n ≡ k + (n - k) = omega arith in
        ap₂ (λ (x y : List ℕ). x ++ y) (buffer_record m k r a (omega arith))
        (ap₂ (λ (p : List ℕ) (i : ℕ). take (n - k) (put_cells p i q)) buffer_carry o
        ∙ ap (take (n - k)) (put_cells_more blank 0 rest q (omega (arith, length_rest, length_blank)))
        ∙ buffer_record m (n - k) (rest ++ q) (omega (arith, length-append rest q, length_rest)) f)
        ∙ sym
        (ap (λ (i : ℕ). bytes i (r ++ q)) g ∙ bytes_add k (n - k) (r ++ q)
        ∙ ap₂ (λ (x y : List ℕ). x ++ y) (bytes_front k r q a) (ap (bytes (n - k)) (drop-append-le (8 * k) r q a)))
