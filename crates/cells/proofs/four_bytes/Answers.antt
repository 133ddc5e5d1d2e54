-- `cells::four_bytes` meets its contract: `v` is the number that the bytes so far write. Assumes nothing.
use mathlib.Core.Path.{refl}
use Prim.Native.Nat.{ℕ, ◌+◌, ◌-◌}
use native.Mathlib.Omega.{arith}
use lib.ListN.{take, drop, length-take}
use Rattle.cells.specs.Cells.{number}
use Rattle.cells.specs.Bytes.{bits, Bytes}
use Rattle.cells.proofs.Bytes.{Bytes-take, Bytes-drop}
use Rattle.cells.proofs.Runs.{window_lt, number_more}
use Rattle.cells.proofs.four_bytes.Goals as goal

pub loop-b-init : goal.loop-b-init
unfolding number bits
loop-b-init c =
    refl

pub overflow_mul-v : goal.overflow_mul-v
overflow_mul-v c =
    let a = c.args in
    omega (arith, window_lt (take (a.k + 4 - a.k) (drop a.k a.page.now)) c.loop-b.b-index 3 (omega (arith, length-take {A = ℕ})))

pub overflow_add-v : goal.overflow_add-v
overflow_add-v c =
    let a = c.args in
    omega (arith, window_lt (take (a.k + 4 - a.k) (drop a.k a.page.now)) c.loop-b.b-index 3 (omega (arith, length-take {A = ℕ})))

pub loop-b-preserved : goal.loop-b-preserved
loop-b-preserved c =
    let b : Bytes (drop c.args.k c.args.page.now) = Bytes-drop c.args.k c.args.page.now (λ j. omega (arith, c.type_inv.page j)) in
    omega (arith, number_more _ c.loop-b.b-index (Bytes-take _ _ b) c.loop-b-test.true)
