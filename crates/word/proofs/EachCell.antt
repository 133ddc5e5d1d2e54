-- "No cell but the last could still be set", cell by cell. Over any number of cells.
-- Assumes nothing.
use mathlib.Core.Bool.{Bool, true, false, ◌||◌}
use mathlib.Core.List.{List, [], ◌∷◌}
use mathlib.Core.Logic.{◌↔◌}
use mathlib.Core.Path.{◌≡◌}
use Prim.Native.Nat.{ℕ, zero, suc, ◌<◌}
use native.Mathlib.Omega.{arith}
use lib.Dec.{T}
use lib.ListN.{length, get_or}
use Rattle.cells.specs.Cells.{first, rest, kept}
use Rattle.word.specs.Fill.{set_or_end, fill_from, fill, put, clear, full, well_formed}
use Rattle.word.proofs.SecondBits.{length_put}

-- cell c, the one before it or the one after it is set; `left` is the cell before the first
abbrev Near : Bool → List Bool → ℕ → Type 0
Near left v c = T (get_or v c false || get_or (left ∷ v) c false || get_or v (suc c) false)

to : (left : Bool) (v : List Bool) → T (kept (fill_from left v) v) → (c : ℕ) → suc c < length v → Near left v c
unfolding kept first rest fill_from set_or_end
to left [] t c h = absurd (omega arith)
to left (a ∷ []) t c h = absurd (omega arith)
to left (true ∷ b ∷ cs) t zero h = tt
to true (false ∷ b ∷ cs) t zero h = tt
to false (false ∷ true ∷ cs) t zero h = tt
to false (false ∷ false ∷ cs) t zero h = absurd t
to left (true ∷ b ∷ cs) t (suc c) h = to true (b ∷ cs) t c (omega arith)
to true (false ∷ b ∷ cs) t (suc c) h = to false (b ∷ cs) t c (omega arith)
to false (false ∷ true ∷ cs) t (suc c) h = to false (true ∷ cs) t c (omega arith)
to false (false ∷ false ∷ cs) t (suc c) h = absurd t

from : (left : Bool) (v : List Bool) → ((c : ℕ) → suc c < length v → Near left v c) → T (kept (fill_from left v) v)
unfolding kept first rest fill_from set_or_end
from left [] h = tt
from left (true ∷ []) h = tt
from true (false ∷ []) h = tt
from false (false ∷ []) h = tt
from left (true ∷ b ∷ cs) h = from true (b ∷ cs) (λ c k. h (suc c) (omega arith))
from true (false ∷ b ∷ cs) h = from false (b ∷ cs) (λ c k. h (suc c) (omega arith))
from false (false ∷ true ∷ cs) h = from false (true ∷ cs) (λ c k. h (suc c) (omega arith))
from false (false ∷ false ∷ cs) h = absurd (h 0 (omega arith))

pub each_cell : (w : List Bool) → T (well_formed w)
    ↔ ((c : ℕ) → suc c < length w → T (get_or (clear w) c false || get_or (false ∷ clear w) c false || get_or (clear w) (suc c) false))
unfolding well_formed full fill
each_cell w = (
  λ t c h. to false (clear w) t c (omega (arith, cleared)),
  λ h. from false (clear w) (λ c k. h c (omega (arith, cleared))),
)
  where
    cleared : length (clear w) ≡ length w
    cleared = unfold clear put in length_put false w []
