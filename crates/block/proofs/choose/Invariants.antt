-- `block::choose` meets its contract: after i turns the best of the first i pages is chosen. Assumes nothing.
use mathlib.Core.Path.{◌≡◌}
use Rattle.block.specs.Block.{offer_at, chosen}
use Rattle.block.proofs.choose.Given as goal

abbrev pub invariant-loop-i : goal.invariant-loop-i
invariant-loop-i l = l.best ≡ chosen l.size (offer_at l.block l.marks) l.i
