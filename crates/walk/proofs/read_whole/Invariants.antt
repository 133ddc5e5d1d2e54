-- `walk::read_whole` meets its contract. The invariant: the bits of the cells after the separators that are left are gathered, in place, and
-- a 1 is as far above the lowest place as there are pairs. Assumes nothing.
use Rattle.walk.proofs.Gathering.{Reading}
use Rattle.walk.proofs.read_whole.Given as goal

abbrev pub invariant-loop-left : goal.invariant-loop-left
invariant-loop-left l = Reading l.held l.starts l.marks l.left l.out

abbrev pub decreases-loop-left : goal.decreases-loop-left
decreases-loop-left l = l.left
