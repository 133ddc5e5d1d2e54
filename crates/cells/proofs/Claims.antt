-- The claim of specs/Claims.antt.
-- Assumes nothing.
use Rattle.cells.specs.Claims.{PulsesAreNewCells}
use Rattle.cells.proofs.Pulses.{pulses_newly, pulses_exact}

pub pulses_are_new_cells : PulsesAreNewCells
pulses_are_new_cells = record { newly = pulses_newly; exact = pulses_exact }
