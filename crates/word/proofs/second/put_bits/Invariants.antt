-- `word::second::put_bits` meets its contract. The invariant: the word so far and what the bits that are left are worth in the cells of the
-- mask make up the whole.
-- Assumes nothing.
use lib.ListN.{length}
use Rattle.cells.specs.Cells.{number, cells}
use Rattle.word.specs.Fill.{read, put}
use Rattle.word.proofs.Putting.{Laid}
use Rattle.word.proofs.second.put_bits.Given as goal

abbrev pub invariant-loop-mask : goal.invariant-loop-mask
invariant-loop-mask l = Laid (number (put l.fn.filled (cells (length (read l.fn.filled)) l.bits))) l.word l.mask l.rest

abbrev pub decreases-loop-mask : goal.decreases-loop-mask
decreases-loop-mask l = l.mask
