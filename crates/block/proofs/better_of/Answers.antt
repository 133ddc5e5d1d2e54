-- `block::better_of` meets its contract. Assumes nothing.
use mathlib.Core.Path.{sym}
use native.Mathlib.Omega.{arith}
use Rattle.block.proofs.Choosing.{keep_passed, keep_small, take_first, take_less, keep_least}
use Rattle.block.proofs.better_of.Goals as goal

pub returns-in_default : goal.returns-in_default
returns-in_default c =
    sym (keep_passed _ _ _ _ c.in_default.is)

pub returns-then-room-size : goal.returns-then-room-size
returns-then-room-size c =
    sym (keep_small _ _ _ _ _ c.in-Some.is (omega (arith, c.if-room-size.true)))

pub returns-in-Some-best : goal.returns-in-Some-best
returns-in-Some-best c =
    sym (keep_least _ _ _ _ _ c.in-Some.is (omega (arith, c.if-room-size.false)) _ _ c.in-Some-best.is c.if-chosen-room.true)

pub returns-in_default-best : goal.returns-in_default-best
returns-in_default-best c =
    sym (take_less _ _ _ _ _ c.in-Some.is (omega (arith, c.if-room-size.false)) _ _ c.in-Some-best.is c.if-chosen-room.false)

pub returns-in_default-best-2 : goal.returns-in_default-best-2
returns-in_default-best-2 c =
    sym (take_first _ _ _ _ _ c.in-Some.is (omega (arith, c.if-room-size.false)) c.in_default-best.is)
