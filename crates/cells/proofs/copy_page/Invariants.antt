-- `cells::copy_page` meets its contract: after j turns the first j bytes are stored. Assumes nothing.
use mathlib.Core.Path.{◌≡◌}
use Prim.Native.Nat.{◌≤◌}
use lib.ListN.{length, take, drop}
use lib.Seq.{sets}
use Rattle.cells.proofs.copy_page.Given as goal

abbrev pub invariant-loop-j : goal.invariant-loop-j
invariant-loop-j l = (l.j ≤ 256) × (l.out ≡ sets l.initial.out l.k (take l.j (take 256 (drop l.from l.pages)))) × (length l.out ≡ length l.initial.out)
