-- `rows::shape::tail_zero` meets its contract: the bytes from byte i on are 0 exactly where all after the words are. Assumes nothing.
use mathlib.Core.Path.{sym, ◌∙◌}
use native.Mathlib.Omega.{arith}
use Rattle.rows.proofs.Headers.{zeros_found, zeros_passed, zeros_end}
use Rattle.rows.proofs.shape.tail_zero.Goals as goal

pub returns-then-page-i-ne0 : goal.returns-then-page-i-ne0
returns-then-page-i-ne0 c =
    sym (zeros_found c.args.page.now c.loop-i.i (omega arith) c.if-page-i-ne0.true) ∙ c.loop-i.invariant

pub loop-i-preserved : goal.loop-i-preserved
loop-i-preserved c =
    zeros_passed c.args.page.now c.loop-i.i (omega arith) c.if-page-i-ne0.false ∙ c.loop-i.invariant

pub returns : goal.returns
returns c =
    sym (zeros_end c.args.page.now c.loop-i.i (omega arith)) ∙ c.loop-i.invariant
