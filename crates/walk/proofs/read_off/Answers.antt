-- `walk::read_off` meets its contract. The invariant: the bits and the word's form so far, and the walk over the cells that are left,
-- make up the whole walk.
-- Assumes nothing.
use Prim.Native.Nat.{◌*◌, ◌%◌, ◌^◌, ◌<◌}
use native.Mathlib.Omega.{arith}
use Rattle.walk.proofs.Readings.{read_start, reading_run, read_pair_fits, read_event, read_few, read_end, read_done, read_held}
use Rattle.walk.proofs.read_off.Goals.{else-loop-n-test, then-loop-n-test+then-n-lt2, then-n-lt2-via-then-n-lt2, then-n-lt2-via-else-n-lt2+then-k-eq0}
use Rattle.walk.proofs.read_off.Goals as goal

pub loop-n-init : goal.loop-n-init
loop-n-init c =
    read_start _ _ c.bits-held.ensures.few

pub overflow_mul-bits : goal.overflow_mul-bits
overflow_mul-bits c =
    let few : c.loop-n.bits * 2 ^ c.zero_run-z.result % 2 ^ 64 < 2 ^ 62 = read_few _ _ _ _ _ _ _ c.requires c.zero_run-z.ensures c.if-n-lt2.false (omega arith) c.loop-n.invariant in
    omega (arith, few)

pub overflow_add-bits : goal.overflow_add-bits
overflow_add-bits c =
    let few : c.loop-n.bits * 2 ^ c.zero_run-z.result % 2 ^ 64 < 2 ^ 62 = read_few _ _ _ _ _ _ _ c.requires c.zero_run-z.ensures c.if-n-lt2.false (omega arith) c.loop-n.invariant in
    omega (arith, few)

pub overflow_sub-first : goal.overflow_sub-first
overflow_sub-first c =
    read_pair_fits _ _ _ _ _ _ _ c.requires c.zero_run-z.ensures c.if-n-lt2.false (omega arith) c.loop-n.invariant

pub loop-n-preserved : goal.loop-n-preserved
loop-n-preserved c =
    read_event _ _ _ _ _ _ _ c.requires c.zero_run-z.ensures c.if-n-lt2.false (omega arith) c.loop-n.invariant

pub new-requires : goal.new-requires
new-requires c =
    omega (arith, c.loop-n.invariant.no_more, c.bits-held.ensures.few)

pub returns : goal.returns
returns c =
    let e = c.bits-held.ensures.cells in
    elim c.loop-n-test.branch [
      | else-loop-n-test w ↦
          rw (c.new.ensures, w.bits-is, w.k-is) (read_held _ _ _ _ _ _ e (read_end _ _ _ _ _ _ w.loop-n-test.false c.loop-n.invariant))
      | then-loop-n-test+then-n-lt2 w ↦
          let r = reading_run _ _ _ _ _ _ _ c.requires w.zero_run-z.ensures c.loop-n.invariant in
          rw (c.new.ensures, w.bits-is, w.k-is) (
          read_held _ _ _ _ _ _ e (
          elim w.then-n-lt2.branch [
            | then-n-lt2-via-then-n-lt2 v ↦ read_end _ _ _ _ _ _ v.if-n-lt2.true r
            | then-n-lt2-via-else-n-lt2+then-k-eq0 v ↦ read_done _ _ _ _ _ _ v.if-k-eq0.true r
          ]))
    ]
