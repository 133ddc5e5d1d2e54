-- A window of bytes around a part of a page's cells: the number that it reads, by halves and byte by byte, what of it is the part,
-- and what putting it back with the part replaced changes.
-- Assumes nothing.
use mathlib.Core.Bool.{Bool}
use mathlib.Core.List.{List, ◌++◌, append_assoc}
use mathlib.Core.Path.{◌≡◌, sym, ap, ap₂, ◌∙◌, subst}
use Prim.Native.Nat.{ℕ, ◌+◌, ◌-◌, ◌*◌, ◌/◌, ◌%◌, ◌^◌, ◌≤◌, ◌<◌}
use native.Mathlib.Nat.{mod-lt}
use native.Mathlib.Omega.{arith}
use lib.Arith.{digits_lt}
use lib.ListN.{length, take, drop, length-drop, take-append-drop}
use lib.Pow.{pow_pos, pow-add, shl-shr, shr-shr, field}
use lib.Seq.{length-take-le, drop-drop, take-add, take-take, take_all, paste, length-paste}
use Rattle.cells.specs.Cells.{number, cells}
use Rattle.cells.specs.Bytes.{bits, bytes, Bytes}
use Rattle.cells.proofs.Numbers.{length_cells, number_take, number_drop, number_part, cells_of, cells_join}
use Rattle.cells.proofs.Bytes.{length_bits, bits_append, drop_bits, take_bits, length_bytes, bits_bytes, bytes_bits, Bytes-bytes, Bytes-take, Bytes-drop, Bytes-append}
use Rattle.window.specs.Words.{splice, put_cells}
use Rattle.window.proofs.Words.{drop_take}

-- m cells from a on, where they lie in the first n
take_drop_take {ℓ} : {A : Type ℓ} (m a n : ℕ) (l : List A) → a + m ≤ n → take m (drop a (take n l)) ≡ take m (drop a l)
take_drop_take m a n l h =
    let e : n ≡ a + (n - a) = omega arith in
    ap (λ (k : ℕ). take m (drop a (take k l))) e ∙ ap (take m) (drop_take a (n - a) l) ∙ take-take m (n - a) (drop a l) (omega arith)

-- m digits of a number with s after them: a shift to the left takes off what is before them, one to the right what is after
pub shifted : (v a m s t : ℕ) → a + s ≡ t → v * 2 ^ a % 2 ^ (m + t) / 2 ^ t ≡ v / 2 ^ s % 2 ^ m
shifted v a m s t e =
    field (v * 2 ^ a) m t
    ∙ ap (λ (x : ℕ). x % 2 ^ m)
    (ap (λ (x : ℕ). v * 2 ^ a / 2 ^ x) (sym e) ∙ sym (shr-shr (v * 2 ^ a) a s) ∙ ap (λ (x : ℕ). x / 2 ^ s) (shl-shr v a))

-- m digits of a number replaced, with a before them and s after
cells_splice : (l : List Bool) (a m s w : ℕ) → length l ≡ a + (m + s) → w < 2 ^ m
    → cells (a + (m + s)) (number l / 2 ^ (m + s) * 2 ^ (m + s) + (w * 2 ^ s + number l % 2 ^ s)) ≡ splice a (cells m w) l
unfolding splice
cells_splice l a m s w e h =
    let r = number l in
    let ea : length (take a l) ≡ a = length-take-le a l (omega arith) in
    let ed : length (drop a l) ≡ m + s = length-drop a l ∙ omega arith in
    let es : length (drop (a + m) l) ≡ s = length-drop (a + m) l ∙ omega arith in
    let top : cells a (r / 2 ^ (m + s)) ≡ take a l =
    ap (λ (k : ℕ). cells a (r / 2 ^ k)) (sym ed) ∙ ap (cells a) (sym (number_take a l)) ∙ cells_of a (take a l) ea in
    let end : cells s (r % 2 ^ s) ≡ drop (a + m) l =
    ap (λ (k : ℕ). cells s (r % 2 ^ k)) (sym es) ∙ ap (cells s) (sym (number_drop (a + m) l)) ∙ cells_of s (drop (a + m) l) es in
    cells_join a (m + s) (r / 2 ^ (m + s)) (w * 2 ^ s + r % 2 ^ s)
    (subst (λ (k : ℕ). w * 2 ^ s + r % 2 ^ s < k) (sym (pow-add 2 m s)) (digits_lt h (mod-lt r (pow_pos s))))
    ∙ ap₂ (λ (x y : List Bool). x ++ y) top
    (cells_join m s w (r % 2 ^ s) (mod-lt r (pow_pos s))
    ∙ ap (λ (y : List Bool). cells m w ++ y) (end ∙ ap (λ (k : ℕ). drop (a + k) l) (sym (length_cells m w))))

-- a part replaced within a window of n from o on
splice_window : (l new : List Bool) (o a n : ℕ) → a + length new ≤ n
    → take o l ++ (splice a new (take n (drop o l)) ++ drop (o + n) l) ≡ splice (o + a) new l
unfolding splice
splice_window l new o a n h =
    let d = drop o l in
    let x = a + length new in
    let e : n ≡ x + (n - x) = omega arith in
    let f : o + n ≡ o + x + (n - x) = omega arith in
    let g : o + a + length new ≡ o + x = omega arith in
    let tail : drop x (take n d) ++ drop (o + n) l ≡ drop (o + a + length new) l =
    ap₂ (λ (u v : List Bool). u ++ v)
    (ap (λ (k : ℕ). drop x (take k d)) e ∙ drop_take x (n - x) d ∙ ap (take (n - x)) (drop-drop x o l))
    (ap (λ (k : ℕ). drop k l) f ∙ sym (drop-drop (n - x) (o + x) l))
    ∙ take-append-drop (n - x) (drop (o + x) l) ∙ ap (λ (k : ℕ). drop k l) (sym g) in
    ap (λ (u : List Bool). take o l ++ u)
    (append_assoc (take a (take n d)) (new ++ drop x (take n d)) (drop (o + n) l)
    ∙ ap₂ (λ (u v : List Bool). u ++ v) (take-take a n d (omega arith))
    (append_assoc new (drop x (take n d)) (drop (o + n) l) ∙ ap (λ (u : List Bool). new ++ u) tail))
    ∙ sym (append_assoc (take o l) (take a d) (new ++ drop (o + a + length new) l))
    ∙ ap (λ (u : List Bool). u ++ (new ++ drop (o + a + length new) l)) (sym (take-add o a l))

-- the m cells of a page from place p on, in the window of n bytes from byte k on, which ends s cells after them
module _ (page : List ℕ) (p m k n s : ℕ) (from : 8 * k ≤ p) (to : p + m + s ≡ 8 * (k + n)) (h : k + n ≤ length page) where
  place : 8 * k + (p - 8 * k) ≡ p
  place = omega arith

  length_window : length (bits (take n (drop k page))) ≡ p - 8 * k + (m + s)
  length_window =
      length_bits (take n (drop k page)) ∙ ap (λ (x : ℕ). 8 * x) (length-take-le n (drop k page) (rw length-drop (omega arith))) ∙ omega arith

  bits_window : take (8 * n) (drop (8 * k) (bits page)) ≡ bits (take n (drop k page))
  bits_window = ap (take (8 * n)) (drop_bits k page) ∙ take_bits n (drop k page)

  -- what they write is read from the window's number
  pub read_window : (v : ℕ) → v ≡ number (bits (take n (drop k page))) → v / 2 ^ s % 2 ^ m ≡ number (take m (drop p (bits page)))
  read_window v ev =
      ap (λ (x : ℕ). x / 2 ^ s % 2 ^ m) ev
      ∙ sym (number_part (bits (take n (drop k page))) (p - 8 * k) m s (length_window ∙ omega arith))
      ∙ ap number
      (ap (λ (l : List Bool). take m (drop (p - 8 * k) l)) (sym bits_window)
      ∙ take_drop_take m (p - 8 * k) (8 * n) (drop (8 * k) (bits page)) (omega arith)
      ∙ ap (take m) (drop-drop (p - 8 * k) (8 * k) (bits page) ∙ ap (λ (x : ℕ). drop x (bits page)) place))

  -- the window put back with their bits replaced: they change and no other
  pub write_window : (old new w : ℕ) → Bytes page → w < 2 ^ m → old ≡ number (bits (take n (drop k page)))
      → new ≡ old / 2 ^ (m + s) * 2 ^ (m + s) + (w * 2 ^ s + old % 2 ^ s)
      → paste page k (bytes n (cells (8 * n) new)) n ≡ put_cells page p (cells m w)
  write_window old new w b hw eo en =
      let x = bytes n (cells (8 * n) new) in
      let out = paste page k x n in
      let lx : length x ≡ n = length_bytes n (cells (8 * n) new) in
      let lo : length out ≡ length page = length-paste page k x n h (omega arith) in
      let o : 8 * (k + n) ≡ 8 * k + 8 * n = omega arith in
      let z : 8 * n ≡ p - 8 * k + (m + s) = omega arith in
      let bo : Bytes out =
      Bytes-append (take k page ++ take n x) (drop (k + n) page)
      (Bytes-append (take k page) (take n x) (Bytes-take k page b) (Bytes-take n x (Bytes-bytes n (cells (8 * n) new))))
      (Bytes-drop (k + n) page b) in
      let v : cells (8 * n) new ≡ splice (p - 8 * k) (cells m w) (bits (take n (drop k page))) =
      ap₂ cells z (en ∙ ap (λ (y : ℕ). y / 2 ^ (m + s) * 2 ^ (m + s) + (w * 2 ^ s + y % 2 ^ s)) eo)
      ∙ cells_splice (bits (take n (drop k page))) (p - 8 * k) m s w length_window hw in
      let mid : bits (take n x) ≡ splice (p - 8 * k) (cells m w) (take (8 * n) (drop (8 * k) (bits page))) =
      ap bits (take_all n x (omega arith)) ∙ bits_bytes n (cells (8 * n) new) (length_cells (8 * n) new)
      ∙ v ∙ ap (splice (p - 8 * k) (cells m w)) (sym bits_window) in
      let bits_out : bits out ≡ splice p (cells m w) (bits page) =
      bits_append (take k page ++ take n x) (drop (k + n) page)
      ∙ ap₂ (λ (u t : List Bool). u ++ t)
      (bits_append (take k page) (take n x) ∙ ap₂ (λ (u t : List Bool). u ++ t) (sym (take_bits k page)) mid)
      (sym (drop_bits (k + n) page) ∙ ap (λ (y : ℕ). drop y (bits page)) o)
      ∙ append_assoc (take (8 * k) (bits page)) (splice (p - 8 * k) (cells m w) (take (8 * n) (drop (8 * k) (bits page))))
      (drop (8 * k + 8 * n) (bits page))
      ∙ splice_window (bits page) (cells m w) (8 * k) (p - 8 * k) (8 * n) (omega (arith, length_cells m w))
      ∙ ap (λ (y : ℕ). splice y (cells m w) (bits page)) place in
      sym (bytes_bits out bo) ∙ ap₂ bytes lo bits_out
