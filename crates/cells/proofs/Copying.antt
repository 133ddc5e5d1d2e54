-- Bytes copied to the start of an output, up to four at a time. Assumes nothing.
use mathlib.Core.List.{List, ◌++◌}
use mathlib.Core.Path.{◌≡◌, sym, ap, ap₂, ◌∙◌}
use Prim.Native.Nat.{ℕ, ◌+◌, ◌-◌, ◌*◌, ◌/◌, ◌^◌, ◌≤◌}
use native.Mathlib.Omega.{arith}
use lib.ListN.{length, take, drop, length-drop}
use lib.Seq.{length-take-le, take-take, take-add, paste}
use Rattle.cells.specs.Cells.{number, cells}
use Rattle.cells.specs.Bytes.{bits, bytes, Bytes, at_start}
use Rattle.cells.proofs.Bytes.{at_start_more, length_bits, take_bits, bytes_bits, Bytes-take, Bytes-drop}
use Rattle.cells.proofs.Numbers.{cells_of, cells_part}

-- the first r of four bytes, from the number that they write
part : (s : List ℕ) (r : ℕ) → Bytes s → length s ≡ 4 → r ≤ 4 → bytes r (cells (8 * r) (number (bits s) / 2 ^ (8 * (4 - r)))) ≡ take r s
part s r b l h =
    let v = number (bits s) in
    let d = 8 * (4 - r) in
    let e : 0 + (8 * r + d) ≡ 32 = omega arith in
    let lr : r ≡ length (take r s) = sym (length-take-le r s (omega arith)) in
    ap (bytes r)
    (sym (cells_part 0 (8 * r) d v)
    ∙ ap (λ (k : ℕ). take (8 * r) (cells k v)) e
    ∙ ap (take (8 * r)) (cells_of 32 (bits s) (length_bits s ∙ ap (λ (k : ℕ). 8 * k) l))
    ∙ take_bits r s)
    ∙ ap (λ (k : ℕ). bytes k (bits (take r s))) lr ∙ bytes_bits (take r s) (Bytes-take r s b)

-- r more bytes of a buffer after its first k
pub copy_more : (buffer out₀ out next : List ℕ) (k r v w : ℕ) → Bytes buffer → k + 4 ≤ length buffer → r ≤ 4
    → out ≡ at_start (take k buffer) out₀ → v ≡ number (bits (take 4 (drop k buffer))) → w ≡ v / 2 ^ (8 * (4 - r))
    → next ≡ paste out k (bytes r (cells (8 * r) w)) r → next ≡ at_start (take (k + r) buffer) out₀
copy_more buffer out₀ out next k r v w b h hr eo ev ew en =
    let s = take 4 (drop k buffer) in
    let a = take k buffer in
    let la : k ≡ length a = sym (length-take-le k buffer (omega arith)) in
    let ls : length s ≡ 4 = length-take-le 4 (drop k buffer) (omega (arith, length-drop k buffer)) in
    let p : bytes r (cells (8 * r) w) ≡ take r s =
    ap (λ (x : ℕ). bytes r (cells (8 * r) x)) (ew ∙ ap (λ (x : ℕ). x / 2 ^ (8 * (4 - r))) ev)
    ∙ part s r (Bytes-take 4 (drop k buffer) (Bytes-drop k buffer b)) ls hr in
    let lp : r ≡ length (take r s) = sym (length-take-le r s (omega arith)) in
    en ∙ ap₂ (λ (o t : List ℕ). paste o k t r) eo p
    ∙ ap₂ (λ (i n : ℕ). paste (at_start a out₀) i (take r s) n) la lp
    ∙ at_start_more a (take r s) out₀
    ∙ ap (λ (t : List ℕ). at_start (a ++ t) out₀) (take-take r 4 (drop k buffer) hr)
    ∙ ap (λ (t : List ℕ). at_start t out₀) (sym (take-add k r buffer))

-- all four
pub four_whole : (v : ℕ) → v ≡ v / 2 ^ (8 * (4 - 4))
four_whole v = omega arith
