-- `word::second::read_bits` meets its contract. The invariant: the bits read so far, and after them those of the data cells that the
-- mask still has, make up the whole.
-- Assumes nothing.
use native.Mathlib.Omega.{arith}
use Rattle.word.proofs.Clearing.{clear_number}
use Rattle.word.proofs.SetCells.{top_cell}
use Rattle.word.proofs.Reading.{picked_start, picked_turn, picked_end}
use Rattle.word.proofs.second.read_bits.Goals as goal

pub loop-mask-init : goal.loop-mask-init
loop-mask-init c =
    let e = c.bits-held.ensures.cells in
    rw e at (picked_start c.bits-held.result c.bits-mask.result c.bits-held.ensures.few (clear_number _ _ _ _ e c.bits-mask.ensures.number c.requires))

pub overflow_sub-mask : goal.overflow_sub-mask
overflow_sub-mask c =
    let t = top_cell _ (omega arith) c.loop-mask.invariant.small in omega (arith, t.shifted, t.least)

pub loop-mask-preserved : goal.loop-mask-preserved
loop-mask-preserved c =
    picked_turn _ _ _ _ _ (top_cell _ (omega arith) c.loop-mask.invariant.small) c.loop-mask.invariant

pub returns : goal.returns
returns c =
    picked_end _ _ _ _ (omega arith) c.loop-mask.invariant
