-- `walk::read_whole` meets its contract. The invariant: the bits of the cells after the separators that are left are gathered, in place, and
-- a 1 is as far above the lowest place as there are pairs. Assumes nothing.
use mathlib.Core.Path.{◌∙◌}
use native.Mathlib.Omega.{arith}
use Rattle.word.proofs.Clearing.{clear_number}
use Rattle.walk.proofs.Whole.{whole_first, whole_held}
use Rattle.walk.proofs.Gathering.{place_is, reading_start, reading_turn, reading_fits, reading_end, reading_count}
use Rattle.walk.proofs.read_whole.Goals as goal

pub overflow_mul-left : goal.overflow_mul-left
overflow_mul-left c =
    let w = c.bits-held.ensures in
    let s = clear_number _ _ _ _ w.cells c.bits-starts.ensures.number c.requires in
    omega (arith, reading_fits _ _ _ _ _ (reading_start c.bits-held.result c.bits-starts.result w.few s))

pub loop-left-init : goal.loop-left-init
loop-left-init c =
    let w = c.bits-held.ensures in
    let s = clear_number _ _ _ _ w.cells c.bits-starts.ensures.number c.requires in reading_start _ _ w.few s

pub overflow_mul-out : goal.overflow_mul-out
overflow_mul-out c =
    omega (arith, (reading_fits _ _ _ _ _ c.loop-left.invariant).2)

pub overflow_add-out : goal.overflow_add-out
overflow_add-out c =
    omega (arith, (reading_fits _ _ _ _ _ (reading_turn _ _ _ _ _ c.loop-left.invariant (omega arith))).2)

pub loop-left-preserved : goal.loop-left-preserved
loop-left-preserved c =
    reading_turn _ _ _ _ _ c.loop-left.invariant (omega arith)

pub overflow_sub-result-2 : goal.overflow_sub-result-2
overflow_sub-result-2 c =
    let w = c.bits-held.ensures in
    let s = clear_number _ _ _ _ w.cells c.bits-starts.ensures.number c.requires in
    omega (arith, reading_count _ _ _ _ _ c.loop-left.invariant (omega arith) w.few s)

pub overflow_sub-held : goal.overflow_sub-held
overflow_sub-held c =
    let w = c.bits-held.ensures in
    let s = clear_number _ _ _ _ w.cells c.bits-starts.ensures.number c.requires in
    omega (arith, whole_first _ _ w.few s)

pub new-requires : goal.new-requires
new-requires c =
    omega (arith, c.bits-held.ensures.few)

pub returns : goal.returns
returns c =
    let w = c.bits-held.ensures in
    let s = clear_number _ _ _ _ w.cells c.bits-starts.ensures.number c.requires in
    let i = c.loop-left.invariant in
    λ k h.
    rw c.new.ensures (
    whole_held _ _ k _ _ _ w.cells h ((reading_end _ _ _ _ _ i (omega arith)).1 ∙ place_is _)
    (omega (arith, reading_count _ _ _ _ _ i (omega arith) w.few s)) (omega (arith, whole_first _ _ w.few s)))
