-- `receive::copy_pages` meets its contract: before each field that it looks at the first i pages are put. Assumes nothing.
use Prim.Native.Nat.{◌-◌}
use lib.ListN.{length}
use Rattle.receive.proofs.Copying.{Copies}
use Rattle.receive.proofs.copy_pages.Given as goal

abbrev pub invariant-loop-i : goal.invariant-loop-i
invariant-loop-i l = Copies l.file l.fn.out l.out l.at l.i

abbrev pub invariant-loop-at : goal.invariant-loop-at
invariant-loop-at l = Copies l.file l.fn.out l.out l.at l.i

abbrev pub decreases-loop-at : goal.decreases-loop-at
decreases-loop-at l = length l.file - l.at
