-- How long the parts of a line are. Assumes nothing.
use Prim.Native.Nat.{◌≤◌}
use native.Mathlib.Omega.{arith}
use lib.ListN.{length}
use Rattle.std.proofs.lemmas.Grind.{common_steps}
use Rattle.text.proofs.Decimals.{decimal_32}
use Rattle.report.specs.declared.Kind.{Kind}
use Rattle.report.specs.declared.Kind.TheVariants.{Blank, First, Filled, Second, Bad}
use Rattle.report.specs.Lines.{name_of}

-- the longest names are `filled` and `second`
pub name_short : (k : Kind) → length (name_of k) ≤ 6
name_short Blank = omega arith
name_short (First n) = omega arith
name_short (Filled n) = omega arith
name_short (Second n) = omega arith
name_short (Bad n) = omega arith

-- what a line's room is found by
pub ruleset parts = (common_steps, decimal_32, name_short)
