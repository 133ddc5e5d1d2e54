-- `window::load_cells` meets its contract: the eight bytes from the one that holds the first cell on hold them.
-- Assumes nothing.
use mathlib.Core.Path.{◌≡◌, sym, ap, ◌∙◌}
use Prim.Native.Nat.{ℕ, ◌+◌, ◌-◌, ◌*◌, ◌/◌, ◌%◌, ◌^◌}
use native.Mathlib.Omega.{arith}
use Rattle.window.proofs.Windows.{shifted, read_window}
use Rattle.window.proofs.load_cells.Goals as goal

pub returns : goal.returns
returns c =
    let a = c.args in
    let v = c.window.result in
    let s : ℕ = 64 - a.at % 8 - a.count in
    let e : a.count + (64 - a.count) ≡ 64 = omega arith in
    ap (λ (w : ℕ). v * 2 ^ (a.at % 8) % 2 ^ w / 2 ^ (64 - a.count)) (sym e)
    ∙ shifted v (a.at % 8) a.count s (64 - a.count) (omega arith)
    ∙ read_window _ a.at a.count (a.at / 8) 8 s (omega arith) (omega arith) (omega arith) v c.window.ensures
