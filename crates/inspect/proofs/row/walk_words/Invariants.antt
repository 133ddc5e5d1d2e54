-- `inspect::row::walk_words` meets its contract: before word i the words before it are walked and put aside, and their walks took the record's
-- bits before bit `next`. Assumes nothing.
use Rattle.inspect.proofs.WalkWords.{Walking}
use Rattle.inspect.proofs.row.walk_words.Given as goal

abbrev pub invariant-loop-i : goal.invariant-loop-i
invariant-loop-i l = Walking l.page l.initial.aside l.second l.at l.aside l.next l.i
