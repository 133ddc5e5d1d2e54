-- `receive::copy_pages` meets its contract: before each field that it looks at the first i pages are put. Assumes nothing.
use native.Mathlib.Omega.{arith}
use Rattle.receive.proofs.Copying.{copies_first, copies_last, copies_within, page_there, copies_page, copies_other}
use Rattle.receive.proofs.copy_pages.Goals as goal

pub loop-i-init : goal.loop-i-init
loop-i-init c =
    copies_first _ _ c.requires.0

pub bounds-file-at : goal.bounds-file-at
bounds-file-at c =
    omega (arith, copies_within _ _ _ _ _ _ c.loop-at.invariant c.requires.2)

pub length_at-requires : goal.length_at-requires
length_at-requires c =
    (copies_within _ _ _ _ _ _ c.loop-at.invariant c.requires.2).0

pub loop-at-smaller : goal.loop-at-smaller
loop-at-smaller c =
    omega (arith, copies_within _ _ _ _ _ _ c.loop-at.invariant c.requires.2, c.length_at.ensures)

pub loop-at-preserved : goal.loop-at-preserved
loop-at-preserved c =
    copies_other _ _ _ _ _ _ c.loop-at.invariant c.requires.2 _ c.length_at.ensures c.loop-at-test.true c.loop-i-test.true

pub copy_page-requires : goal.copy_page-requires
copy_page-requires c =
    (omega arith, page_there _ _ _ _ _ _ c.loop-at.invariant c.requires.2 c.loop-at-test.false)

pub loop-i-preserved : goal.loop-i-preserved
loop-i-preserved c =
    copies_page _ _ _ _ _ _ c.loop-at.invariant c.requires.2 _ c.loop-at-test.false c.copy_page.ensures

pub returns : goal.returns
returns c =
    copies_last _ _ _ _ _ _ c.loop-i.invariant c.requires.2 c.loop-i-test.false
