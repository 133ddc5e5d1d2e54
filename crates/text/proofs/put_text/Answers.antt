-- `text::put_text` meets its contract: in the loop, the text's first i bytes are stored.
-- Assumes nothing.
use mathlib.Core.List.{List}
use mathlib.Core.Path.{ap, ap₂, ◌∙◌}
use Prim.Native.Nat.{ℕ, ◌+◌}
use native.Mathlib.Omega.{arith}
use lib.ListN.{set, get_or}
use Rattle.cells.proofs.Storing.{sets_turn}
use Rattle.text.proofs.put_text.Goals as goal

pub loop-i-preserved : goal.loop-i-preserved
loop-i-preserved c =
    let a = c.args in
    let l = c.loop-i in (
      ap₂ (λ (k j : ℕ). set l.line k (get_or a.text.now j 0)) (omega arith) (omega arith)
          ∙ ap (λ (out : List ℕ). set out (a.at + l.i) (get_or a.text.now l.i 0)) l.invariant.0
          ∙ sets_turn a.line.now a.at a.text.now l.i (omega arith),
      omega arith,
    )
