-- `walk::walk_word` meets its contract. The invariant: the pairs so far, and the walk of the bits that are left over the cells that are
-- left, make up the whole walk.
-- Assumes nothing.
use mathlib.Core.Path.{refl, ap, ◌∙◌}
use Prim.Native.Nat.{min}
use native.Mathlib.Omega.{arith}
use lib.ListN.{length}
use Rattle.word.specs.Word.{sparse}
use Rattle.walk.specs.Walk.{read_up_to}
use Rattle.walk.proofs.Laying.{held_start, turn_cell, turn_bit, held_end, laid_starts, laid_word}
use Rattle.walk.proofs.walk_word.Goals as goal

pub loop-next-init : goal.loop-next-init
loop-next-init c =
    let w = c.bits-cells.ensures in held_start _ _ _ w.few (ap sparse w.cells ∙ c.requires.0) c.requires.1 c.requires.2

pub overflow_add-marks : goal.overflow_add-marks
overflow_add-marks c =
    omega (arith, (turn_cell _ _ _ _ _ _ _ c.loop-next.invariant c.loop-next-test.true c.if-next-cells.true _ refl).1)

pub overflow_sub-cells : goal.overflow_sub-cells
overflow_sub-cells c =
    (turn_cell _ _ _ _ _ _ _ c.loop-next.invariant c.loop-next-test.true c.if-next-cells.true _ refl).0

pub loop-next-preserved-then-next-cells : goal.loop-next-preserved-then-next-cells
loop-next-preserved-then-next-cells c =
    (turn_cell _ _ _ _ _ _ _ c.loop-next.invariant c.loop-next-test.true c.if-next-cells.true _ refl).2

pub overflow_sub-after : goal.overflow_sub-after
overflow_sub-after c =
    omega (arith, (turn_bit _ _ _ _ _ _ _ c.loop-next.invariant c.loop-next-test.true c.if-next-cells.false _ refl).0)

pub overflow_add-marks-else-next-cells : goal.overflow_add-marks-else-next-cells
overflow_add-marks-else-next-cells c =
    omega (arith, (turn_bit _ _ _ _ _ _ _ c.loop-next.invariant c.loop-next-test.true c.if-next-cells.false _ refl).3)

pub overflow_add-separators : goal.overflow_add-separators
overflow_add-separators c =
    omega (arith, (turn_bit _ _ _ _ _ _ _ c.loop-next.invariant c.loop-next-test.true c.if-next-cells.false _ refl).2)

pub overflow_sub-next-else-next-cells : goal.overflow_sub-next-else-next-cells
overflow_sub-next-else-next-cells c =
    (turn_bit _ _ _ _ _ _ _ c.loop-next.invariant c.loop-next-test.true c.if-next-cells.false _ refl).1

pub loop-next-preserved : goal.loop-next-preserved
loop-next-preserved c =
    (turn_bit _ _ _ _ _ _ _ c.loop-next.invariant c.loop-next-test.true c.if-next-cells.false _ refl).4

pub overflow_add-separators-2 : goal.overflow_add-separators-2
overflow_add-separators-2 c =
    let l = held_end _ _ _ _ _ _ _ c.loop-next.invariant _ c.bits-cells.ensures.cells c.requires.0 c.loop-next-test.false in
    omega (arith, l.below)

pub new-out-requires : goal.new-out-requires
new-out-requires c =
    let l = held_end _ _ _ _ _ _ _ c.loop-next.invariant _ c.bits-cells.ensures.cells c.requires.0 c.loop-next-test.false in
    l.below

pub new-requires : goal.new-requires
new-requires c =
    let l = held_end _ _ _ _ _ _ _ c.loop-next.invariant _ c.bits-cells.ensures.cells c.requires.0 c.loop-next-test.false in
    (laid_starts _ _ _ _ _ l).0

pub whole_count-requires : goal.whole_count-requires
whole_count-requires c =
    let l = held_end _ _ _ _ _ _ _ c.loop-next.invariant _ c.bits-cells.ensures.cells c.requires.0 c.loop-next-test.false in
    rw (c.new.ensures, c.new-out.ensures) (laid_starts _ _ _ _ _ l).1

pub returns : goal.returns
returns c =
    let l = held_end _ _ _ _ _ _ _ c.loop-next.invariant _ c.bits-cells.ensures.cells c.requires.0 c.loop-next-test.false in
    rw c.new-out.ensures (
    laid_word _ _ _ _ _ _ _ c.bits-cells.ensures.cells l (c.min-taken.ensures ∙ ap (min c.args.count) (c.whole_count.ensures ∙ ap (λ v. length (read_up_to 45 v)) c.new-out.ensures)))
