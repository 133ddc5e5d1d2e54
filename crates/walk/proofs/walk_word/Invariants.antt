-- `walk::walk_word` meets its contract. The invariant: the pairs so far, and the walk of the bits that are left over the cells that are
-- left, make up the whole walk.
-- Assumes nothing.
use Rattle.walk.proofs.Laying.{Held}
use Rattle.walk.proofs.walk_word.Given as goal

abbrev pub invariant-loop-next : goal.invariant-loop-next
invariant-loop-next l = Held l.initial.cells l.bits l.count l.cells l.next l.separators l.marks

abbrev pub decreases-loop-next : goal.decreases-loop-next
decreases-loop-next l = l.next
