-- `rows::second_round::put_record` meets its contract: before word i the words before it are done, and the record's bits before bit `at` are
-- in. Assumes nothing.
use native.Mathlib.Omega.{arith}
use Rattle.rows.proofs.PutRecord.{putting_start, putting_own, putting_turn}
use Rattle.rows.proofs.second_round.put_record.Goals as goal

pub loop-i-init : goal.loop-i-init
loop-i-init c =
    putting_start _ _ (λ j. omega (arith, c.type_inv.page j))

pub data_cells-count-requires : goal.data_cells-count-requires
data_cells-count-requires c =
    (putting_own _ _ _ _ _ c.loop-i.invariant _ _ c.requires (omega arith) c.load_word-filled.ensures).apart

pub bits_at-requires : goal.bits_at-requires
bits_at-requires c =
    let f = putting_own _ _ _ _ _ c.loop-i.invariant _ _ c.requires (omega arith) c.load_word-filled.ensures in
    (omega (arith, c.loop-i.invariant.counted.few), omega (arith, f.most, c.data_cells-count.ensures))

pub put_bits-requires : goal.put_bits-requires
put_bits-requires c =
    (putting_own _ _ _ _ _ c.loop-i.invariant _ _ c.requires (omega arith) c.load_word-filled.ensures).apart

pub overflow_add-at : goal.overflow_add-at
overflow_add-at c =
    let f = putting_own _ _ _ _ _ c.loop-i.invariant _ _ c.requires (omega arith) c.load_word-filled.ensures in
    omega (arith, f.most, c.data_cells-count.ensures, c.loop-i.invariant.counted.few)

pub loop-i-preserved : goal.loop-i-preserved
loop-i-preserved c =
    let f = putting_own _ _ _ _ _ c.loop-i.invariant _ _ c.requires (omega arith) c.load_word-filled.ensures in
    putting_turn _ _ _ _ _ c.loop-i.invariant (omega arith) _ _ _ _ _ c.load_word-filled.ensures f c.data_cells-count.ensures c.bits_at.ensures
    c.put_bits.ensures c.store_word.ensures
