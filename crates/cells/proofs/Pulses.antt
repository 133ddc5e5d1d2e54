-- Set cells, and the pulses of going from one row of cells to another.
-- Assumes nothing.
use mathlib.Core.Bool.{Bool, true, false}
use mathlib.Core.List.{List, [], ◌∷◌, ◌++◌}
use mathlib.Core.Path.{◌≡◌, refl}
use Prim.Native.Nat.{◌+◌, ◌≤◌}
use native.Mathlib.Omega.{arith}
use lib.Dec.{T}
use lib.ListN.{length}
use Rattle.cells.specs.Cells.{first, rest, kept, set_cells, newly_set, pulses}

pub set_cells_append : (a b : List Bool) → set_cells (a ++ b) ≡ set_cells a + set_cells b
unfolding set_cells
set_cells_append [] b = omega arith
set_cells_append (c ∷ a) b = omega (arith, set_cells_append a b)

pub set_cells_le : (cs : List Bool) → set_cells cs ≤ length cs
unfolding set_cells
set_cells_le [] = omega arith
set_cells_le (true ∷ cs) = omega (arith, set_cells_le cs)
set_cells_le (false ∷ cs) = omega (arith, set_cells_le cs)

-- where no cell is cleared, the set cells afterwards are those before and the new ones
kept_count_lem : (cs ds : List Bool) → length ds ≡ length cs → T (kept cs ds) → set_cells cs + newly_set cs ds ≡ set_cells ds
unfolding set_cells newly_set kept first rest
kept_count_lem [] [] e k = refl
kept_count_lem [] (d ∷ ds) e k = absurd (omega arith)
kept_count_lem (c ∷ cs) [] e k = absurd (omega arith)
kept_count_lem (true ∷ cs) (false ∷ ds) e k = absurd k
kept_count_lem (true ∷ cs) (true ∷ ds) e k = omega (arith, kept_count_lem cs ds (omega arith) k)
kept_count_lem (false ∷ cs) (true ∷ ds) e k = omega (arith, kept_count_lem cs ds (omega arith) k)
kept_count_lem (false ∷ cs) (false ∷ ds) e k = omega (arith, kept_count_lem cs ds (omega arith) k)

module _ (before after : List Bool) (e : length after ≡ length before) (k : T (kept before after)) where
  pub pulses_newly : pulses before after ≡ newly_set before after
  unfolding pulses
  pulses_newly = omega (arith, kept_count_lem before after e k)

  pub pulses_exact : set_cells before + pulses before after ≡ set_cells after
  pulses_exact = omega (arith, kept_count_lem before after e k, pulses_newly)
