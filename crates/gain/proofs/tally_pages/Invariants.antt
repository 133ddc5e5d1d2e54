-- `gain::tally_pages` meets its contract. The loop's invariant: the buffer has 256 bytes, and in the turn of page `index` the tally is that of
-- so many whole pages. The measure is how many pages may still come.
-- Assumes nothing.
use mathlib.Core.List.{List}
use mathlib.Core.Path.{◌≡◌}
use Prim.Native.Nat.{ℕ, ◌*◌, ◌≤◌}
use lib.ListN.{length}
use Rattle.std.specs.Prelude.{Option, Some, None}
use Rattle.report.specs.Listing.{pieces_of}
use Rattle.report.proofs.Turning.{turns_left}
use Rattle.sheet.specs.declared.Tally.{Tally}
use Rattle.sheet.specs.Sheet.{tally_of}
use Rattle.gain.proofs.tally_pages.Given as goal

-- the tally of an input
abbrev pub Sheeted : Tally → Type 0
Sheeted t = (l : List ℕ) × (t ≡ tally_of (pieces_of l))

-- in a turn
abbrev pub Counted : Option ℕ → Tally → Type 0
Counted (Some index) t = (P : List ℕ) × (length P ≡ index * 256) × (t ≡ tally_of (pieces_of P)) × (index ≤ 4095)
Counted None t = Sheeted t

abbrev pub invariant-loop-turn : goal.invariant-loop-turn
invariant-loop-turn l = (length l.page ≡ 256) × Counted l.turn l.tally

abbrev pub decreases-loop-turn : goal.decreases-loop-turn
decreases-loop-turn l = turns_left l.turn
