-- `window::copy_eights` meets its contract: after j turns the first 8 * j bytes are in. Assumes nothing.
use mathlib.Core.Path.{◌≡◌}
use Prim.Native.Nat.{◌≤◌, ◌*◌}
use lib.ListN.{length, take}
use Rattle.cells.specs.Bytes.{at_start}
use Rattle.window.proofs.copy_eights.Given as goal

abbrev pub invariant-loop-j : goal.invariant-loop-j
invariant-loop-j l = (l.j ≤ l.k) × (length l.to ≡ length l.initial.to) × (l.to ≡ at_start (take (8 * l.j) l.from) l.initial.to)
