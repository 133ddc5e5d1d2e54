-- `cells::four_or_zero` meets its contract: after j turns `v` is the number that the first j bytes write. Assumes nothing.
use mathlib.Core.Path.{◌≡◌}
use Prim.Native.Nat.{◌≤◌, ◌*◌}
use lib.ListN.{drop}
use Rattle.cells.specs.Cells.{number, fit}
use Rattle.cells.specs.Bytes.{bits}
use Rattle.cells.proofs.four_or_zero.Given as goal

abbrev pub invariant-loop-j : goal.invariant-loop-j
invariant-loop-j l = (l.j ≤ 4) × (l.v ≡ number (fit (8 * l.j) (bits (drop l.k l.second))))
