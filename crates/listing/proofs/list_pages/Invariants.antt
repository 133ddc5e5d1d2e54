-- `listing::list_pages` meets its contract. The loop's invariant: the buffer keeps its length. The measure is how many pages may still come.
-- Assumes nothing.
use mathlib.Core.Path.{◌≡◌}
use lib.ListN.{length}
use Rattle.report.proofs.Turning.{turns_left}
use Rattle.listing.proofs.list_pages.Given as goal

abbrev pub invariant-loop-turn : goal.invariant-loop-turn
invariant-loop-turn l = length l.page ≡ length l.initial.page

abbrev pub decreases-loop-turn : goal.decreases-loop-turn
decreases-loop-turn l = turns_left l.turn
