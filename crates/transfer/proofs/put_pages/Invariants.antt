-- `transfer::put_pages` meets its contract: after i turns the fields of the first i pages are stored. Assumes nothing.
use mathlib.Core.Path.{◌≡◌}
use lib.Seq.{sets}
use Rattle.transfer.specs.File.{page_fields}
use Rattle.transfer.proofs.put_pages.Given as goal

abbrev pub invariant-loop-i : goal.invariant-loop-i
invariant-loop-i l = l.out ≡ sets l.initial.out 9 (page_fields l.i l.pages)
