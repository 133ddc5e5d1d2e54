-- `cells::put_bytes` meets its contract: after j turns the first j bytes of v are in. Assumes nothing.
use mathlib.Core.Path.{◌≡◌}
use Prim.Native.Nat.{◌≤◌, ◌*◌}
use lib.ListN.{length}
use lib.Seq.{paste}
use Rattle.cells.specs.Cells.{cells}
use Rattle.cells.specs.Bytes.{bytes}
use Rattle.cells.proofs.put_bytes.Given as goal

abbrev pub invariant-loop-j : goal.invariant-loop-j
invariant-loop-j l = (l.j ≤ l.n) × (l.page ≡ paste l.initial.page l.k (bytes l.n (cells (8 * l.n) l.v)) l.j) × (length l.page ≡ length l.initial.page)
