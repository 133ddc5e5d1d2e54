-- `rows::filling::count_filled` meets its contract: before word i the words before it are filled, and `cells` counts their data cells.
-- Assumes nothing.
use mathlib.Core.Path.{◌≡◌, ap, ◌∙◌}
use native.Mathlib.Omega.{arith}
use lib.ListN.{length}
use Rattle.word.specs.Fill.{read, is_filled}
use Rattle.rows.proofs.Loaded.{tested_own}
use Rattle.rows.proofs.Scanning.{passed_none, loaded_passed, loaded_failed, scan_end}
use Rattle.rows.proofs.Counting.{counting_start, counting_turn}
use Rattle.rows.proofs.filling.count_filled.Goals as goal

pub loop-i-init : goal.loop-i-init
loop-i-init c =
    (passed_none is_filled _, counting_start _)

pub returns-then-not-is_filled : goal.returns-then-not-is_filled
returns-then-not-is_filled c =
    let inv = c.loop-i.invariant in
    record {
      words = loaded_failed is_filled _ _ _ _ _ (omega arith) inv.0 c.load_word-word.ensures c.is_filled.ensures c.if-not-is_filled.true;
      cells = inv.1.sum;
    }

pub data_cells-requires : goal.data_cells-requires
data_cells-requires c =
    (tested_own _ _ _ _ (omega arith) c.load_word-word.ensures c.is_filled.ensures c.if-not-is_filled.false).apart

pub overflow_add-cells : goal.overflow_add-cells
overflow_add-cells c =
    let w = tested_own _ _ _ _ (omega arith) c.load_word-word.ensures c.is_filled.ensures c.if-not-is_filled.false in
    omega (arith, w.most, c.data_cells.ensures, c.loop-i.invariant.1.few)

pub loop-i-preserved : goal.loop-i-preserved
loop-i-preserved c =
    let w = tested_own _ _ _ _ (omega arith) c.load_word-word.ensures c.is_filled.ensures c.if-not-is_filled.false in
    let n = c.data_cells.ensures ∙ ap (λ v. length (read v)) c.load_word-word.ensures in (
      loaded_passed is_filled _ _ _ _ c.loop-i.invariant.0 c.load_word-word.ensures c.is_filled.ensures c.if-not-is_filled.false,
      counting_turn _ _ _ _ n (omega (arith, w.most, c.data_cells.ensures)) c.loop-i.invariant.1,
    )

pub returns : goal.returns
returns c =
    let e : c.loop-i.i ≡ c.args.n = omega arith in
    record { words = scan_end is_filled _ _ _ e c.loop-i.invariant.0; cells = rw e at c.loop-i.invariant.1.sum }
