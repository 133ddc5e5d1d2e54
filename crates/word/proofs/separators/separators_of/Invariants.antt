-- `word::separators::separators_of` meets its contract. The invariant: a cell is a separator if it is set so far, or if its run reaches
-- d cells back and the cell there is a separator.
-- Assumes nothing.
use Prim.Native.Nat.{◌-◌}
use Rattle.word.proofs.Clearing.{Stays}
use Rattle.word.proofs.separators.separators_of.Given as goal

abbrev pub invariant-loop-d : goal.invariant-loop-d
invariant-loop-d l = Stays l.bits l.set l.pass l.d

abbrev pub decreases-loop-d : goal.decreases-loop-d
decreases-loop-d l = 64 - l.d
