-- `rows::words::first_illegal` meets its contract: the words before word i are legal. Assumes nothing.
use mathlib.Core.Path.{sym, ◌∙◌}
use native.Mathlib.Omega.{arith}
use Rattle.word.specs.Word.{legal}
use Rattle.rows.proofs.Loaded.{legal_number}
use Rattle.rows.proofs.Scanning.{passed_more, scan_failed, scan_end}
use Rattle.rows.proofs.words.first_illegal.Goals as goal

pub returns-then-not-is_legal : goal.returns-then-not-is_legal
returns-then-not-is_legal c =
    let t = c.is_legal.ensures ∙ legal_number _ _ _ _ (omega arith) c.load_word.ensures c.bits.ensures.number in
    sym (scan_failed legal _ _ _ (omega arith) c.loop-i.invariant (sym t ∙ c.if-not-is_legal.true))

pub loop-i-preserved : goal.loop-i-preserved
loop-i-preserved c =
    let t = c.is_legal.ensures ∙ legal_number _ _ _ _ (omega arith) c.load_word.ensures c.bits.ensures.number in
    passed_more legal _ _ c.loop-i.invariant (sym t ∙ c.if-not-is_legal.false)

pub returns : goal.returns
returns c =
    scan_end legal _ _ c.loop-i.i (omega arith) c.loop-i.invariant
