-- `block::collect_block` meets its contract. Assumes nothing.
use mathlib.Core.Logic.{inl, inr}
use native.Mathlib.Omega.{arith}
use Rattle.answer.proofs.Chains.{given_both}
use Rattle.block.proofs.Placing.{as_block}
use Rattle.block.proofs.Collecting.{count_few, not_blocks, not_blank, collected}
use Rattle.block.proofs.collect_block.Goals as goal

pub returns-in_default : goal.returns-in_default
returns-in_default c =
    given_both (not_blocks _ _ _ (inl c.in_default.ensures.cases)) λ told left. record { answer = told; bytes = left }

pub returns-in_default-as_mut_array : goal.returns-in_default-as_mut_array
returns-in_default-as_mut_array c =
    given_both (not_blocks _ _ _ (inr c.in_default-as_mut_array.ensures.cases)) λ told left. record { answer = told; bytes = left }

pub returns-then-not-zero_from : goal.returns-then-not-zero_from
returns-then-not-zero_from c =
    let s = c.in-Some.ensures.cases in
    let t = c.in-Some-as_mut_array.ensures.cases in
    given_both (not_blank c.args.keep _ _ s.long (as_block _ _ t) c.if-not-zero_from.ensures) λ told left. rw (← t.same) (record { answer = told; bytes = left })

pub overflow_cast-result : goal.overflow_cast-result
overflow_cast-result c =
    omega (arith, c.keep_pages.ensures.answer, count_few c.args.keep 16)

pub returns : goal.returns
returns c =
    let s = c.in-Some.ensures.cases in
    let t = c.in-Some-as_mut_array.ensures.cases in
    given_both (collected c.args.keep _ _ (as_block _ _ s) (as_block _ _ t) c.if-not-zero_from.ensures _ _ c.keep_pages.ensures.answer c.keep_pages.ensures.bytes) λ told left.
    rw (← s.same, ← t.same) (record { answer = told; bytes = left })
