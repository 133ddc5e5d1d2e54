-- `cells::copy_start` meets its contract: after j turns the first 4 * j bytes are in. Assumes nothing.
use mathlib.Core.Path.{◌≡◌}
use Prim.Native.Nat.{◌≤◌, ◌*◌, ◌/◌}
use lib.ListN.{length, take}
use Rattle.cells.specs.Bytes.{at_start}
use Rattle.cells.proofs.copy_start.Given as goal

abbrev pub invariant-loop-j : goal.invariant-loop-j
invariant-loop-j l = (l.j ≤ l.n / 4) × (length l.out ≡ length l.initial.out) × (l.out ≡ at_start (take (4 * l.j) l.buffer) l.initial.out)
