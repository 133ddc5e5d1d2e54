-- `cells::four_or_zero` meets its contract: after j turns `v` is the number that the first j bytes write. Assumes nothing.
use mathlib.Core.Path.{refl}
use Prim.Native.Nat.{◌<◌, ◌+◌, ◌^◌}
use native.Mathlib.Omega.{arith}
use lib.ListN.{drop}
use Rattle.cells.specs.Cells.{number, fit}
use Rattle.cells.specs.Bytes.{bits}
use Rattle.cells.proofs.Cutting.{four_step, four_lt}
use Rattle.cells.proofs.four_or_zero.Goals as goal

pub loop-j-init : goal.loop-j-init
unfolding fit number
loop-j-init c =
    (omega arith, refl)

pub overflow_mul-v : goal.overflow_mul-v
overflow_mul-v c =
    let below : c.loop-j.v < 2 ^ 32 = omega (arith, four_lt (bits (drop c.args.k c.args.second.now)) c.loop-j.j (omega arith)) in
    omega (arith, below)

pub overflow_add-v : goal.overflow_add-v
overflow_add-v c =
    let below : c.loop-j.v < 2 ^ 32 = omega (arith, four_lt (bits (drop c.args.k c.args.second.now)) c.loop-j.j (omega arith)) in
    let byte : c.byte_or_zero.result < 256 = omega (
      arith,
      c.byte_or_zero.ensures,
      c.type_inv.second (c.args.k + c.loop-j.j),
    ) in
    omega (arith, below, byte)

pub loop-j-preserved : goal.loop-j-preserved
loop-j-preserved c =
    let byte : c.byte_or_zero.result < 256 = omega (
      arith,
      c.byte_or_zero.ensures,
      c.type_inv.second (c.args.k + c.loop-j.j),
    ) in
    let a = c.args in
    let j = c.loop-j.j in
    (omega arith, omega (arith, c.byte_or_zero.ensures, byte, four_step a.second.now a.k j (omega (arith, c.byte_or_zero.ensures, byte)), c.loop-j.invariant.1))
