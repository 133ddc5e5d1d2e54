-- `cells::put_bytes` meets its contract: after j turns the first j bytes of v are in. Assumes nothing.
use mathlib.Core.List.{List}
use mathlib.Core.Path.{◌≡◌, sym, ap, ap₂, ◌∙◌}
use Prim.Native.Nat.{ℕ, ◌+◌, ◌*◌, ◌-◌, ◌^◌, ◌/◌, ◌%◌}
use native.Mathlib.Numerals.{add-one}
use native.Mathlib.Omega.{arith}
use lib.ListN.{get_or, set, length-set}
use lib.Seq.{paste, paste-suc}
use Rattle.cells.specs.Cells.{cells}
use Rattle.cells.specs.Bytes.{bytes}
use Rattle.cells.proofs.Bytes.{byte_at, length_bytes}
use Rattle.cells.proofs.put_bytes.Goals as goal

pub loop-j-preserved : goal.loop-j-preserved
loop-j-preserved c =
    let p = c.args.page.now in
    let k = c.args.k in
    let v = c.args.v in
    let j = c.loop-j.j in
    let n = c.args.n in
    let s = bytes n (cells (8 * n) v) in
    let b : v / 2 ^ (8 * (n - 1 - j)) % 256 ≡ get_or s j 0 = sym (byte_at n v j (omega arith)) in (
      omega arith,
      ap₂ (λ (l : List ℕ) (x : ℕ). set l (k + j) x) c.loop-j.invariant.1 b
          ∙ paste-suc p k s j 0 (omega arith) (omega (arith, length_bytes n (cells (8 * n) v)))
          ∙ ap (paste p k s) (sym (add-one j)),
      simp length-set c.loop-j.invariant.2,
    )
