-- Bytes copied to the start of an output, eight at a time. Assumes nothing.
use mathlib.Core.List.{List}
use mathlib.Core.Path.{◌≡◌, sym, ap, ap₂, ◌∙◌}
use Prim.Native.Nat.{ℕ, ◌+◌, ◌*◌, ◌≤◌}
use native.Mathlib.Omega.{arith}
use lib.ListN.{length, take, drop, length-drop}
use lib.Seq.{length-take-le, take-add, paste}
use Rattle.cells.specs.Cells.{number, cells}
use Rattle.cells.specs.Bytes.{bits, bytes, Bytes, at_start}
use Rattle.cells.proofs.Bytes.{at_start_more, length_bits, bytes_bits, Bytes-take, Bytes-drop}
use Rattle.cells.proofs.Numbers.{cells_of}

-- eight bytes, from the number that they write
whole : (s : List ℕ) → Bytes s → length s ≡ 8 → bytes 8 (cells 64 (number (bits s))) ≡ s
whole s b l =
    ap (bytes 8) (cells_of 64 (bits s) (length_bits s ∙ ap (λ (k : ℕ). 8 * k) l))
    ∙ ap (λ (k : ℕ). bytes k (bits s)) (sym l) ∙ bytes_bits s b

-- eight more bytes after the first k
pub copy_eight : (from to₀ to next : List ℕ) (k v : ℕ) → Bytes from → k + 8 ≤ length from
    → to ≡ at_start (take k from) to₀ → v ≡ number (bits (take 8 (drop k from)))
    → next ≡ paste to k (bytes 8 (cells 64 v)) 8 → next ≡ at_start (take (k + 8) from) to₀
copy_eight from to₀ to next k v b h eo ev en =
    let s = take 8 (drop k from) in
    let a = take k from in
    let la : k ≡ length a = sym (length-take-le k from (omega arith)) in
    let ls : length s ≡ 8 = length-take-le 8 (drop k from) (omega (arith, length-drop k from)) in
    let p : bytes 8 (cells 64 v) ≡ s = ap (λ (x : ℕ). bytes 8 (cells 64 x)) ev ∙ whole s (Bytes-take 8 (drop k from) (Bytes-drop k from b)) ls in
    en ∙ ap₂ (λ (o t : List ℕ). paste o k t 8) eo p
    ∙ ap₂ (λ (i n : ℕ). paste (at_start a to₀) i s n) la (sym ls)
    ∙ at_start_more a s to₀
    ∙ ap (λ (t : List ℕ). at_start t to₀) (sym (take-add k 8 from))
