-- `tallies::tally_kind` meets its contract: the pages are fewer than 4,096. Assumes nothing.
use native.Mathlib.Omega.{arith}
use Rattle.sheet.proofs.Tallying.{pages_fit}
use Rattle.sheet.proofs.tallies.tally_kind.Goals as goal

pub overflow_add-tally : goal.overflow_add-tally
overflow_add-tally c = record { fits = omega (arith, pages_fit c.requires) }
