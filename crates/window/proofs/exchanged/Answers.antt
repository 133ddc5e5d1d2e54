-- `window::exchanged` meets its contract.
-- Assumes nothing.
use mathlib.Core.Path.{ap, ◌∙◌}
use Prim.Native.Nat.{ℕ, ◌+◌, ◌-◌, ◌*◌, ◌%◌, ◌^◌}
use native.Mathlib.Omega.{arith}
use Rattle.window.proofs.Exchanging.{field_exchanged}
use Rattle.window.proofs.exchanged.Goals as goal

pub returns : goal.returns
returns c =
    let a = c.args in
    ap (λ (f : ℕ). (a.old + (a.v + (2 ^ 64 - f)) % 2 ^ 64 * 2 ^ a.s % 2 ^ 64) % 2 ^ 64) c.requires.2
    ∙ field_exchanged a.old a.s 46 c.ranges.old.fits a.v (omega arith) (omega arith)
