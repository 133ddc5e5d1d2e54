-- `wom::wom_fill_word` meets its contract: the packed answer of `fill`, whose two parts can be told apart.
-- Assumes nothing.
use mathlib.Core.Path.{sym, subst}
use Prim.Native.Nat.{ℕ}
use Rattle.answer.specs.Answer.{AnswerOf}
use Rattle.answer.specs.Layout.{FaithfulParts}
use Rattle.wom.proofs.Claims.{fill_parts}
use Rattle.wom.proofs.wom_fill_word.Goals as goal

pub pack_filled-requires : goal.pack_filled-requires
pack_filled-requires c =
    subst (λ (a : AnswerOf (ℕ × ℕ)). FaithfulParts 48 a) (sym c.fill.ensures) (fill_parts _)
