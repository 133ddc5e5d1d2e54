-- `cells::zero_from` meets its contract: the bytes are 0 exactly where their sum is. Assumes nothing.
use Rattle.std.proofs.Common.{◌≡◌, ◌-◌, ℕ, length, take, drop, length-drop, sum, ap, ◌∙◌, arith, nat_eq}
use Rattle.std.proofs.Math.Seq.{take_all}
use Rattle.cells.proofs.Zeros.{zeros_sum}
use Rattle.cells.proofs.zero_from.Goals as goal

pub returns : goal.returns
returns c =
    let l = drop c.args.from c.args.bytes.now in
    let n = length c.args.bytes.now - c.args.from in
    let all : take n l ≡ l = take_all n l (omega (arith, length-drop c.args.from c.args.bytes.now)) in
    ap (λ (k : ℕ). nat_eq k 0) (c.loop-b.invariant.1 ∙ ap sum (take_all c.loop-b.b-index (take n l) c.loop-b-test.false ∙ all)) ∙ zeros_sum l
