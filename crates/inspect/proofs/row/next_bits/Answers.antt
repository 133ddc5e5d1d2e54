-- `inspect::row::next_bits` meets its contract. Assumes nothing.
use mathlib.Core.Path.{◌≡◌, refl, ap, ◌∙◌}
use native.Mathlib.Omega.{arith}
use lib.ListN.{drop, length-drop}
use Rattle.cells.specs.Cells.{number}
use Rattle.cells.specs.Bytes.{bits}
use Rattle.cells.proofs.Bytes.{length_bits}
use Rattle.cells.proofs.Fits.{fit_take}
use Rattle.inspect.proofs.row.next_bits.Goals as goal

pub returns-then-count-eq0 : goal.returns-then-count-eq0
unfolding number
returns-then-count-eq0 c =
    let a = c.args in
    let e : a.count ≡ 0 = omega arith in
    rw e refl

pub returns : goal.returns
returns c =
    let a = c.args in
    let l = bits a.second.now in
    c.last_bits.ensures ∙ ap number (fit_take a.count (drop a.at l) (omega (arith, length-drop a.at l, length_bits a.second.now)))
