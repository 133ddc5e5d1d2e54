-- `word::second::read_bits` meets its contract. The invariant: the bits read so far, and after them those of the data cells that the
-- mask still has, make up the whole.
-- Assumes nothing.
use Rattle.cells.specs.Cells.{number}
use Rattle.word.specs.Fill.{read}
use Rattle.word.proofs.Reading.{Picked}
use Rattle.word.proofs.second.read_bits.Given as goal

abbrev pub invariant-loop-mask : goal.invariant-loop-mask
invariant-loop-mask l = Picked (number (read l.fn.word)) l.out l.mask l.held

abbrev pub decreases-loop-mask : goal.decreases-loop-mask
decreases-loop-mask l = l.mask
