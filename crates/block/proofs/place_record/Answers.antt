-- `block::place_record` meets its contract. Assumes nothing.
use mathlib.Core.Path.{sym, ◌∙◌}
use native.Mathlib.Omega.{arith}
use Rattle.answer.proofs.Chains.{given_both}
use Rattle.answer.proofs.Passing.{refused_as}
use Rattle.block.proofs.Choosing.{chosen_best}
use Rattle.block.proofs.Placing.{refused_by, as_block, not_a_block, none_placed, one_placed}
use Rattle.block.proofs.place_record.Goals as goal

pub returns-in_default : goal.returns-in_default
returns-in_default c =
    given_both (not_a_block _ _ _ c.in_default.ensures.cases) λ told left. record { answer = told; bytes = left }

pub returns-in_err-page : goal.returns-in_err-page
returns-in_err-page c =
    let w = c.in-Some.ensures.cases in
    given_both (none_placed _ c.args.marks c.args.second.now (as_block _ _ w) _ c.choose.ensures c.in_err-page.ensures.ok_part) λ told left.
    rw (← w.same, refused_as _ _ c.from_residual.ensures.1, refused_by _ _ _ c.in_err-page.ensures.value) (record { answer = told; bytes = left })

pub write_page-requires : goal.write_page-requires
write_page-requires c =
    (chosen_best _ _ _ _ _ (sym c.choose.ensures ∙ c.in_ok-page.ensures.ok_part)).fits.there

pub overflow_cast-result : goal.overflow_cast-result
overflow_cast-result c =
    omega (arith, (chosen_best _ _ _ _ _ (sym c.choose.ensures ∙ c.in_ok-page.ensures.ok_part)).fits.there)

pub returns : goal.returns
returns c =
    let w = c.in-Some.ensures.cases in
    given_both (one_placed _ c.args.marks c.args.second.now (as_block _ _ w) _ c.choose.ensures _ _ c.in_ok-page.ensures.ok_part _ c.write_page.ensures) λ told left.
    rw (← w.same) (record { answer = told; bytes = left })
