-- `block::write_page` meets its contract: the part that is lent comes back filled and written. Assumes nothing.
use mathlib.Core.Path.{◌≡◌}
use Prim.Native.Nat.{◌+◌, ◌-◌, ◌*◌}
use native.Mathlib.Omega.{arith}
use Rattle.block.proofs.Pages.{both_written}
use Rattle.block.proofs.write_page.Goals as goal

pub returns : goal.returns
returns c =
    let a = c.args in
    let n : 256 * a.i + 256 - 256 * a.i ≡ 256 = omega arith in
    both_written a.block.now _ _ a.second.now a.i _ n c.fill_page.ensures.bytes c.write_second.ensures.bytes
