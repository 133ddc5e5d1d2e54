-- `window::load_word` meets its contract: the window that ends at word i's last byte holds it.
-- Assumes nothing.
use mathlib.Core.Path.{ap, ◌∙◌}
use Prim.Native.Nat.{◌-◌}
use native.Mathlib.Omega.{arith}
use Rattle.cells.specs.Cells.{cells}
use Rattle.window.specs.Words.{start, word_at}
use Rattle.window.proofs.Words.{cells_word_at}
use Rattle.window.proofs.Windows.{shifted, read_window}
use Rattle.window.proofs.load_word.Goals as goal

pub returns : goal.returns
unfolding word_at
returns c =
    let k = c.window_start.ensures in
    let s = c.cells_after.ensures in
    c.new.ensures
    ∙ ap (cells 46)
    (shifted _ (18 - c.cells_after.result) 46 c.cells_after.result 18 (omega arith)
    ∙ read_window _ (start c.args.i) 46 c.window_start.result 8 c.cells_after.result
    (omega arith) (omega arith) (omega arith) _ c.window-v.ensures)
    ∙ cells_word_at _ c.args.i (omega arith)
