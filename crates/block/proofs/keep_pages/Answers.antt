-- `block::keep_pages` meets its contract: after i turns the kept ones of the first i pages are copied. Assumes nothing.
use mathlib.Core.Path.{◌≡◌}
use Prim.Native.Nat.{◌-◌, ◌/◌, ◌^◌}
use native.Mathlib.Omega.{arith}
use Rattle.std.specs.Int.Count.{count_leading_zeros}
use Rattle.block.proofs.Collecting.{none_left, keeps_first, keeps_page, keeps_none, keeps_all}
use Rattle.block.proofs.keep_pages.Goals.{then-is_marked, else-is_marked}
use Rattle.block.proofs.keep_pages.Goals as goal

pub loop-i-init : goal.loop-i-init
loop-i-init c = keeps_first _ _ _

pub loop-i-preserved : goal.loop-i-preserved
loop-i-preserved c =
    elim c.if-is_marked.branch [
      | then-is_marked w ↦ rw (w.n-is, w.target-is) (keeps_page _ _ _ _ _ _ _ c.told-source (omega arith) w.if-is_marked.ensures c.loop-i.invariant w.copy_page.ensures)
      | else-is_marked w ↦ rw (w.n-is, w.target-is) (keeps_none _ _ _ _ _ _ w.if-is_marked.ensures c.loop-i.invariant)
    ]

pub returns : goal.returns
returns c =
    let i : c.loop-i.i ≡ 16 - count_leading_zeros 16 c.args.keep = omega arith in
    let none : c.args.keep / 2 ^ c.loop-i.i ≡ 0 = rw i (none_left c.args.keep (omega (arith, c.ranges.keep))) in
    let k = keeps_all _ _ _ _ _ _ (omega arith) none c.loop-i.invariant in record { answer = k.count; bytes = k.put }
