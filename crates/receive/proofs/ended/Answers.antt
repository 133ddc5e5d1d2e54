-- `receive::ended` meets its contract. Assumes nothing.
use mathlib.Core.Path.{sym}
use native.Mathlib.Omega.{arith}
use lib.ListN.{drop, length-drop}
use Rattle.receive.proofs.Judging.{bytes_after, end_reached}
use Rattle.receive.proofs.ended.Goals as goal

pub returns-then-next-file : goal.returns-then-next-file
returns-then-next-file c =
    let a = c.args in sym (bytes_after (drop a.next a.file.now) _ (omega (arith, length-drop a.next a.file.now, c.if-next-file.true)))

pub returns : goal.returns
returns c =
    let a = c.args in sym (end_reached (drop a.next a.file.now) _ (omega (arith, length-drop a.next a.file.now, c.if-next-file.false)))
