-- `word::second::put_bits` meets its contract. The invariant: the word so far and what the bits that are left are worth in the cells of the
-- mask make up the whole.
-- Assumes nothing.
use mathlib.Core.Path.{ap, ◌∙◌}
use native.Mathlib.Omega.{arith}
use Rattle.word.specs.Word.{sparse}
use Rattle.word.proofs.SetCells.{low_of}
use Rattle.word.proofs.Putting.{put_held, laid_start, laid_turn, laid_end}
use Rattle.word.proofs.second.put_bits.Goals as goal

pub loop-mask-init : goal.loop-mask-init
loop-mask-init c =
    let e = c.bits-word.ensures.cells in rw e at (laid_start c.bits-word.result c.args.bits c.bits-word.ensures.few (ap sparse e ∙ c.requires))

pub loop-mask-preserved : goal.loop-mask-preserved
loop-mask-preserved c =
    laid_turn _ _ _ _ _ (low_of _ (omega arith) c.loop-mask.invariant.small) c.loop-mask.invariant

pub new-requires : goal.new-requires
new-requires c =
    (put_held _ _ _ _ c.bits-word.ensures.cells (laid_end _ _ _ _ (omega arith) c.loop-mask.invariant)).0

pub returns : goal.returns
returns c =
    c.new.ensures ∙ (put_held _ _ _ _ c.bits-word.ensures.cells (laid_end _ _ _ _ (omega arith) c.loop-mask.invariant)).1
