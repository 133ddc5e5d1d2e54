-- `rows::words::capacity_of` meets its contract: the total so far is the capacity of the words before word i. Assumes nothing.
use Rattle.word.specs.Fill.{capacity}
use Rattle.rows.proofs.Sums.{Summing}
use Rattle.rows.proofs.words.capacity_of.Given as goal

abbrev pub invariant-loop-i : goal.invariant-loop-i
invariant-loop-i l = Summing capacity 23 l.page l.total l.i
