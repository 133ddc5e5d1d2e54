-- `window::put_cells` meets its contract: the window is put back with the cells from `at` on replaced.
-- Assumes nothing.
use mathlib.Core.Path.{◌≡◌, sym, ap, ◌∙◌}
use Prim.Native.Nat.{ℕ, ◌/◌}
use native.Mathlib.Omega.{arith}
use Rattle.std.proofs.Common.{rules}
use lib.ListN.{take, drop}
use Rattle.cells.specs.Cells.{number}
use Rattle.cells.specs.Bytes.{bits, Bytes}
use Rattle.window.proofs.Windows.{write_window}
use Rattle.window.proofs.put_cells.Goals.{then-this-eq8, else-this-eq8}
use Rattle.window.proofs.put_cells.Goals as goal

pub returns : goal.returns
returns g c =
    let a = c.args in
    let n = g.row.N in
    let b : Bytes a.page.now = λ j. search rules in
    let read = λ (m : ℕ). number (bits (take m (drop (a.at / 8) a.page.now))) in
    let old : c.if-this-eq8.old ≡ read n = elim c.if-this-eq8.branch [
      | then-this-eq8 w ↦ let e : n ≡ 8 = omega arith in w.old-is ∙ w.window-old.ensures ∙ ap read (sym e)
      | else-this-eq8 w ↦ let e : n ≡ 4 = omega arith in w.old-is ∙ w.four_bytes-old.ensures ∙ ap read (sym e)
    ] in
    c.put_bytes.ensures
    ∙ write_window _ a.at a.count (a.at / 8) n _ (omega arith) (omega arith) (omega arith)
    _ _ _ b (omega arith) old c.replaced.ensures
