-- `rows::first_round::read_words` meets its contract: before word i the values of the words before it are at the output's start.
-- Assumes nothing.
use Rattle.rows.proofs.ReadWords.{Reading}
use Rattle.rows.proofs.first_round.read_words.Given as goal

abbrev pub invariant-loop-i : goal.invariant-loop-i
invariant-loop-i l = Reading l.page l.initial.out l.out l.i
