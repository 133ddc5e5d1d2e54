-- `word::series::Weights::rest_after` meets its contract: a weight that goes in is taken, and the next larger one would not go in.
-- Assumes nothing.
use mathlib.Core.Path.{refl}
use native.Mathlib.Omega.{arith}
use borrow.Author.Tests.{le-leb}
use Rattle.word.proofs.Weights.{weight_next, weight_le}
use Rattle.word.proofs.series.Weights.rest_after.Goals as goal

pub returns : goal.returns
returns c =
    let n = c.args.n in
    let l = c.requires.1 in
    let e = c.weight.ensures in record { left = rw (e, le-leb _ _ l.goes) refl; less = omega (arith, e, l.goes, l.next, weight_next n, weight_le n) }
