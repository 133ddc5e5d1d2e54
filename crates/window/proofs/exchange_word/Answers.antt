-- `window::exchange_word` meets its contract: the window is put back with the word's cells replaced.
-- Assumes nothing.
use mathlib.Core.Path.{sym, ap, ◌∙◌}
use native.Mathlib.Omega.{arith}
use Rattle.std.proofs.Common.{rules}
use Rattle.cells.specs.Cells.{number}
use Rattle.cells.specs.Bytes.{Bytes}
use Rattle.window.specs.Words.{start, word_at, put_cells, put_word}
use Rattle.window.proofs.Windows.{read_window, write_window}
use Rattle.window.proofs.exchange_word.Goals as goal

pub exchanged-requires : goal.exchanged-requires
unfolding word_at
exchanged-requires c =
    let a = c.args in
    let k = c.window_start-k.ensures in
    let s = c.cells_after.ensures in
    (omega arith, omega arith, c.bits.ensures.number ∙ ap number c.requires.2 ∙ sym (read_window _ (start a.i) 46 c.window_start-k.result 8 c.cells_after.result (omega arith) (omega arith) (omega arith) _ c.window-old.ensures))

pub returns : goal.returns
unfolding put_word
returns c =
    let a = c.args in
    let k = c.window_start-k.ensures in
    let s = c.cells_after.ensures in
    let b : Bytes a.page.now = λ j. search rules in
    c.put_bytes.ensures
    ∙ write_window _ (start a.i) 46 c.window_start-k.result 8 c.cells_after.result
    (omega arith) (omega arith) (omega arith) _ _ _ b (omega arith) c.window-old.ensures c.exchanged.ensures
    ∙ ap (put_cells a.page.now (start a.i)) c.bits-2.ensures.cells
