-- `listing::list_pages` meets its contract. The loop's invariant: the buffer keeps its length. The measure is how many pages may still come.
-- Assumes nothing.
use Rattle.report.proofs.Turning.{one_less}
use Rattle.listing.proofs.list_pages.Goals as goal

pub loop-turn-smaller : goal.loop-turn-smaller
loop-turn-smaller c =
    one_less _ _ c.list_page-turn.ensures.0 c.in-Some.is c.list_page-turn.ensures.1
