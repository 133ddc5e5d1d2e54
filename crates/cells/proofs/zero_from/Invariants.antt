-- `cells::zero_from` meets its contract: the total is the sum of the bytes so far. Assumes nothing.
use Rattle.std.proofs.Common.{◌≡◌, ◌≤◌, ◌*◌, sum, take}
use Rattle.cells.proofs.zero_from.Given as goal

abbrev pub invariant-loop-b : goal.invariant-loop-b
invariant-loop-b l = (l.total ≤ 255 * l.b-index) × (l.total ≡ sum (take l.b-index l.b-items))
