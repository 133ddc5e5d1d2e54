-- `block::keep_pages` meets its contract: after i turns the kept ones of the first i pages are copied. Assumes nothing.
use Rattle.block.proofs.Collecting.{Keeps}
use Rattle.block.proofs.keep_pages.Given as goal

abbrev pub invariant-loop-i : goal.invariant-loop-i
invariant-loop-i l = Keeps l.keep l.source l.initial.target l.target l.n l.i
