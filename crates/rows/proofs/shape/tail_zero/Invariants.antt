-- `rows::shape::tail_zero` meets its contract: the bytes from byte i on are 0 exactly where all after the words are. Assumes nothing.
use mathlib.Core.Path.{◌≡◌}
use lib.ListN.{drop}
use Rattle.cells.specs.Bytes.{zeros}
use Rattle.rows.specs.Page.{tail}
use Rattle.rows.proofs.shape.tail_zero.Given as goal

abbrev pub invariant-loop-i : goal.invariant-loop-i
invariant-loop-i l = zeros (drop l.i l.page) ≡ zeros (tail l.n l.page)
