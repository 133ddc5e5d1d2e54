-- `receive::judge` meets its contract: before each turn the reader stands at a field. Assumes nothing.
use mathlib.Core.List.{List}
use Prim.Native.Nat.{ℕ, ◌-◌}
use lib.ListN.{length}
use Rattle.receive.proofs.Walking.{Stands}
use Rattle.receive.proofs.judge.Given as goal

abbrev pub invariant-loop-field : goal.invariant-loop-field
invariant-loop-field l = (P : List ℕ) × Stands l.file l.at l.seen l.device P

abbrev pub decreases-loop-field : goal.decreases-loop-field
decreases-loop-field l = length l.file - l.at
