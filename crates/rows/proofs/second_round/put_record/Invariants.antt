-- `rows::second_round::put_record` meets its contract: before word i the words before it are done, and the record's bits before bit `at` are
-- in. Assumes nothing.
use Rattle.rows.proofs.PutRecord.{Putting}
use Rattle.rows.proofs.second_round.put_record.Given as goal

abbrev pub invariant-loop-i : goal.invariant-loop-i
invariant-loop-i l = Putting l.initial.page l.second l.page l.at l.i
