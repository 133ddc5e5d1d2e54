-- `window::store_word` meets its contract: the window is put back with the word's cells replaced.
-- Assumes nothing.
use mathlib.Core.Path.{ap, ◌∙◌}
use native.Mathlib.Omega.{arith}
use Rattle.std.proofs.Common.{rules}
use Rattle.cells.specs.Bytes.{Bytes}
use Rattle.window.specs.Words.{start, put_cells, put_word}
use Rattle.window.proofs.Windows.{write_window}
use Rattle.window.proofs.store_word.Goals as goal

pub returns : goal.returns
unfolding put_word
returns c =
    let a = c.args in
    let k = c.window_start-k.ensures in
    let s = c.cells_after.ensures in
    let b : Bytes a.page.now = λ j. search rules in
    c.put_bytes.ensures
    ∙ write_window _ (start a.i) 46 c.window_start-k.result 8 c.cells_after.result
    (omega arith) (omega arith) (omega arith) _ _ _ b (omega arith) c.window-old.ensures c.replaced.ensures
    ∙ ap (put_cells a.page.now (start a.i)) c.bits.ensures.cells
