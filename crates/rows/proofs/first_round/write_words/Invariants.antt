-- `rows::first_round::write_words` meets its contract: before word i the words before it are in. Assumes nothing.
use Rattle.rows.proofs.WriteWords.{Writing}
use Rattle.rows.proofs.first_round.write_words.Given as goal

abbrev pub invariant-loop-i : goal.invariant-loop-i
invariant-loop-i l = Writing l.initial.page l.first l.page l.i
