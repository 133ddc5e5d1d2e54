-- `rows::filling::count_filled` meets its contract: before word i the words before it are filled, and `cells` counts their data cells.
-- Assumes nothing.
use Rattle.word.specs.Fill.{is_filled}
use Rattle.rows.proofs.Scanning.{Passed}
use Rattle.rows.proofs.Counting.{Counting}
use Rattle.rows.proofs.filling.count_filled.Given as goal

abbrev pub invariant-loop-i : goal.invariant-loop-i
invariant-loop-i l = Passed is_filled l.page l.i × Counting l.page l.cells l.i
