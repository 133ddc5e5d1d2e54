-- `rows::second_round::gather` meets its contract: before word i the words before it are well formed, and their bits are in the buffer.
-- Assumes nothing.
use mathlib.Core.Logic.{inr}
use mathlib.Core.Path.{◌≡◌, refl}
use native.Mathlib.Omega.{arith}
use Rattle.word.specs.Fill.{well_formed}
use Rattle.rows.proofs.Scanning.{loaded_failed, scan_end}
use Rattle.rows.proofs.Gather.{separated, read_fits, gathering_start, gathering_turn}
use Rattle.rows.proofs.second_round.gather.Goals as goal

pub loop-i-init : goal.loop-i-init
loop-i-init c =
    gathering_start _ _ (λ j. omega (arith, c.type_inv.buffer j))

pub returns-then-not-is_well_formed : goal.returns-then-not-is_well_formed
returns-then-not-is_well_formed c =
    let g = c.loop-i.invariant in
    record {
      words = loaded_failed well_formed _ _ _ _ _ (omega arith) g.formed c.load_word-word.ensures c.is_well_formed.ensures c.if-not-is_well_formed.true;
      cells = g.counted.sum;
      bytes = g.held;
    }

pub data_cells-count-requires : goal.data_cells-count-requires
data_cells-count-requires c =
    let w = separated _ _ _ _ _ (omega arith) c.load_word-word.ensures c.separators_of-separators.ensures c.is_well_formed.ensures c.if-not-is_well_formed.false in
    w.apart

pub put_cells-requires : goal.put_cells-requires
put_cells-requires c =
    let w = separated _ _ _ _ _ (omega arith) c.load_word-word.ensures c.separators_of-separators.ensures c.is_well_formed.ensures c.if-not-is_well_formed.false in
    let n = c.data_cells-count.ensures in (
      inr refl,
      omega (arith, c.loop-i.invariant.counted.few),
      omega (arith, n, w.count, w.some),
      omega (arith, n, w.count, w.most),
      read_fits _ _ _ _ _ _ c.load_word-word.ensures w n c.read_bits.ensures,
    )

pub overflow_add-cells : goal.overflow_add-cells
overflow_add-cells c =
    let w = separated _ _ _ _ _ (omega arith) c.load_word-word.ensures c.separators_of-separators.ensures c.is_well_formed.ensures c.if-not-is_well_formed.false in
    omega (arith, w.count, w.most, c.data_cells-count.ensures, c.loop-i.invariant.counted.few)

pub loop-i-preserved : goal.loop-i-preserved
loop-i-preserved c =
    let w = separated _ _ _ _ _ (omega arith) c.load_word-word.ensures c.separators_of-separators.ensures c.is_well_formed.ensures c.if-not-is_well_formed.false in
    gathering_turn _ _ _ _ _ _ _ _ _ _ c.loop-i.invariant (omega (arith, c.requires.1)) c.load_word-word.ensures w c.data_cells-count.ensures c.read_bits.ensures c.put_cells.ensures

pub returns : goal.returns
returns c =
    let e : c.loop-i.i ≡ c.args.n = omega arith in
    let g = c.loop-i.invariant in
    record { words = scan_end well_formed _ _ _ e g.formed; cells = rw e at g.counted.sum; bytes = rw e at g.held }
