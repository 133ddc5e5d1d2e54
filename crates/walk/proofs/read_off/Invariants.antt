-- `walk::read_off` meets its contract. The invariant: the bits and the word's form so far, and the walk over the cells that are left,
-- make up the whole walk.
-- Assumes nothing.
use Rattle.walk.proofs.Readings.{Underread}
use Rattle.walk.proofs.read_off.Given as goal

abbrev pub invariant-loop-n : goal.invariant-loop-n
invariant-loop-n l = Underread l.held l.wanted l.first l.bits l.n l.k

abbrev pub decreases-loop-n : goal.decreases-loop-n
decreases-loop-n l = l.n
