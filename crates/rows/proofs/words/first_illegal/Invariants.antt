-- `rows::words::first_illegal` meets its contract: the words before word i are legal. Assumes nothing.
use Rattle.word.specs.Word.{legal}
use Rattle.rows.proofs.Scanning.{Passed}
use Rattle.rows.proofs.words.first_illegal.Given as goal

abbrev pub invariant-loop-i : goal.invariant-loop-i
invariant-loop-i l = Passed legal l.page l.i
