-- `fields::span_of` meets its contract: each test answers as the checks do, in their order. Assumes nothing.
use mathlib.Core.Path.{sym, ap, ◌∙◌}
use Prim.Native.Nat.{ℕ, ◌+◌}
use native.Mathlib.Omega.{arith}
use Rattle.answer.specs.Answer.{result}
use Rattle.receive.proofs.Judging.{head_cut, too_short, too_long, contents_cut, spanned}
use Rattle.receive.proofs.fields.span_of.Goals.{then-n-least-via-then-n-least, then-n-least-via-else-n-least+then-most-n}
use Rattle.receive.proofs.fields.span_of.Goals as goal

pub returns-then-file-at-lt3 : goal.returns-then-file-at-lt3
returns-then-file-at-lt3 c =
    let a = c.args in sym (head_cut _ _ a.at a.file.now _ c.if-file-at-lt3.true)

pub returns-then-n-least : goal.returns-then-n-least
returns-then-n-least c =
    let a = c.args in
    let n = c.length_at-n.ensures in
    sym (elim c.then-n-least.branch [
      | then-n-least-via-then-n-least w ↦ too_short _ _ a.at a.file.now _ c.if-file-at-lt3.false (omega (arith, n, w.if-n-least.true))
      | then-n-least-via-else-n-least+then-most-n w ↦ too_long _ _ a.at a.file.now _ c.if-file-at-lt3.false (omega (arith, n, w.if-most-n.true))
    ])

pub returns-then-file-next : goal.returns-then-file-next
returns-then-file-next c =
    let a = c.args in
    let n = c.length_at-n.ensures in
    sym
    (contents_cut _ _ a.at a.file.now _ c.if-file-at-lt3.false (omega (arith, n, c.if-n-least.false)) (omega (arith, n, c.if-most-n.false))
    (omega (arith, n, c.if-file-next.true)))

pub returns : goal.returns
returns c =
    let a = c.args in
    let n = c.length_at-n.ensures in
    ap (λ (k : ℕ). result (a.at + 3 + k)) n
    ∙ sym
    (spanned _ _ a.at a.file.now _ c.if-file-at-lt3.false (omega (arith, n, c.if-n-least.false)) (omega (arith, n, c.if-most-n.false))
    (omega (arith, n, c.if-file-next.false)))
