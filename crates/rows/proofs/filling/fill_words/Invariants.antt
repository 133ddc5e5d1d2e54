-- `rows::filling::fill_words` meets its contract: before word i the words before it are filled, and the total is their pulses.
-- Assumes nothing.
use Rattle.word.specs.Fill.{fill_pulses}
use Rattle.rows.proofs.Sums.{Summing}
use Rattle.rows.proofs.FillWords.{Filling}
use Rattle.rows.proofs.filling.fill_words.Given as goal

abbrev pub invariant-loop-i : goal.invariant-loop-i
invariant-loop-i l = Filling l.initial.page l.page l.i × Summing fill_pulses 46 l.initial.page l.total l.i
