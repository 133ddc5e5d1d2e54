-- `word::separators::separators_of` meets its contract. The invariant: a cell is a separator if it is set so far, or if its run reaches
-- d cells back and the cell there is a separator.
-- Assumes nothing.
use mathlib.Core.Path.{◌∙◌}
use native.Mathlib.Omega.{arith}
use Rattle.word.proofs.Clearing.{clear_held, stays_start, stays_turn, stays_end}
use Rattle.word.proofs.separators.separators_of.Goals as goal

pub loop-d-init : goal.loop-d-init
loop-d-init c =
    stays_start _ _ c.bits-bits.ensures.few c.moved_on.ensures

pub loop-d-preserved : goal.loop-d-preserved
loop-d-preserved c =
    stays_turn _ _ _ _ _ _ c.loop-d.invariant c.moved_on-in-loop-d.ensures c.moved_on-pass.ensures

pub new-requires : goal.new-requires
new-requires c =
    (clear_held _ _ _ c.bits-bits.ensures.cells (stays_end _ _ _ _ (omega arith) c.loop-d.invariant)).0

pub returns : goal.returns
returns c =
    c.new.ensures ∙ (clear_held _ _ _ c.bits-bits.ensures.cells (stays_end _ _ _ _ (omega arith) c.loop-d.invariant)).1
