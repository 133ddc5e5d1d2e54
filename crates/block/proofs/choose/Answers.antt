-- `block::choose` meets its contract: after i turns the best of the first i pages is chosen. Assumes nothing.
use mathlib.Core.Path.{refl, sym, ap, ap₂, ◌∙◌}
use native.Mathlib.Numerals.{add-one}
use Rattle.block.specs.Block.{Choice, Offer, offer_at, better, chosen}
use Rattle.block.proofs.choose.Goals as goal

pub loop-i-init : goal.loop-i-init
unfolding chosen
loop-i-init c = refl

pub loop-i-preserved : goal.loop-i-preserved
unfolding chosen
loop-i-preserved c =
    let a = c.args in
    c.better_of-best.ensures
    ∙ ap₂ (λ (b : Choice) (p : Offer). better a.size b p c.loop-i.i) c.loop-i.invariant c.offer_of.ensures
    ∙ ap (chosen a.size (offer_at a.block.now a.marks)) (sym (add-one c.loop-i.i))
