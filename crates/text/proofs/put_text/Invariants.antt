-- `text::put_text` meets its contract: in the loop, the text's first i bytes are stored.
-- Assumes nothing.
use mathlib.Core.Path.{◌≡◌}
use Prim.Native.Nat.{◌≤◌}
use lib.ListN.{take}
use lib.Seq.{sets}
use Rattle.text.proofs.put_text.Given as goal

abbrev pub invariant-loop-i : goal.invariant-loop-i
invariant-loop-i l = (l.line ≡ sets l.initial.line l.at (take l.i l.text)) × (l.i ≤ l.i-end)
