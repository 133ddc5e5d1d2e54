-- `rows::words::capacity_of` meets its contract: the total so far is the capacity of the words before word i. Assumes nothing.
use mathlib.Core.Path.{◌∙◌}
use native.Mathlib.Omega.{arith}
use Rattle.word.specs.Fill.{capacity}
use Rattle.rows.proofs.Loaded.{legal_filled}
use Rattle.rows.proofs.Sums.{summing_start, summing_turn}
use Rattle.rows.proofs.words.capacity_of.Goals as goal

pub loop-i-init : goal.loop-i-init
loop-i-init c =
    summing_start capacity 23 _

pub data_cells-requires : goal.data_cells-requires
data_cells-requires c =
    let f = legal_filled _ _ _ _ _ (omega arith) c.requires.1 (omega arith) c.load_word.ensures c.fill_word.ensures in
    f.apart

pub overflow_cast-total : goal.overflow_cast-total
overflow_cast-total c =
    let f = legal_filled _ _ _ _ _ (omega arith) c.requires.1 (omega arith) c.load_word.ensures c.fill_word.ensures in
    omega (arith, f.most, f.count, c.data_cells.ensures)

pub overflow_add-total : goal.overflow_add-total
overflow_add-total c =
    let f = legal_filled _ _ _ _ _ (omega arith) c.requires.1 (omega arith) c.load_word.ensures c.fill_word.ensures in
    omega (arith, f.most, f.count, c.data_cells.ensures, c.loop-i.invariant.few)

pub loop-i-preserved : goal.loop-i-preserved
loop-i-preserved c =
    let f = legal_filled _ _ _ _ _ (omega arith) c.requires.1 (omega arith) c.load_word.ensures c.fill_word.ensures in
    let n = c.data_cells.ensures ∙ f.count in
    summing_turn capacity 23 _ _ _ _ n (omega (arith, n, f.most)) c.loop-i.invariant
