-- `inspect::row::read_words` meets its contract: before word i the words before it are legal in their unwalked form, and their bits are in the
-- buffer. Assumes nothing.
use Rattle.inspect.proofs.ReadWords.{Reading}
use Rattle.inspect.proofs.row.read_words.Given as goal

abbrev pub invariant-loop-i : goal.invariant-loop-i
invariant-loop-i l = Reading l.page l.from l.wanted l.n l.initial.buffer l.buffer l.at l.i
