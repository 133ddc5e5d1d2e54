-- `cells::four_bytes` meets its contract: `v` is the number that the bytes so far write. Assumes nothing.
use mathlib.Core.Path.{◌≡◌}
use lib.ListN.{take}
use Rattle.cells.specs.Cells.{number}
use Rattle.cells.specs.Bytes.{bits}
use Rattle.cells.proofs.four_bytes.Given as goal

abbrev pub invariant-loop-b : goal.invariant-loop-b
invariant-loop-b l = l.v ≡ number (bits (take l.b-index l.b-items))
