-- What is claimed of pulses. proofs/Claims.antt proves it.
-- Assumes nothing.
use Rattle.std.specs.Prelude.{Bool, List, ◌≡◌, ◌+◌, T, length}
use Rattle.cells.specs.Cells.{kept, set_cells, newly_set, pulses}

-- Where no cell is cleared, the pulses are the number of cells that are set after and were not before, and with the set cells before they
-- add up to the set cells after. Over any number of cells.
pub record PulsesAreNewCells : Type 0 where
  pub newly : (before after : List Bool) → length after ≡ length before → T (kept before after) → pulses before after ≡ newly_set before after
  pub exact : (before after : List Bool) → length after ≡ length before → T (kept before after)
      → set_cells before + pulses before after ≡ set_cells after
