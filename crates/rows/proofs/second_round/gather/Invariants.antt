-- `rows::second_round::gather` meets its contract: before word i the words before it are well formed, and their bits are in the buffer.
-- Assumes nothing.
use Rattle.rows.proofs.Gather.{Gathering}
use Rattle.rows.proofs.second_round.gather.Given as goal

abbrev pub invariant-loop-i : goal.invariant-loop-i
invariant-loop-i l = Gathering l.page l.initial.buffer l.buffer l.cells l.i
