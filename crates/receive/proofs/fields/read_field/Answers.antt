-- `fields::read_field` meets its contract: each tag goes to what answers for it. Where the guards ask how many fields were seen, `omega` finds
-- what they say, and not their names, so that an edit of one is refused by its meaning. Assumes nothing.
use native.Mathlib.Omega.{arith}
use mathlib.Core.Path.{refl, sym, ap}
use Prim.Native.Nat.{◌+◌}
use borrow.Author.Tests.{eq-eqb, ne_eqb}
use lib.ListN.{drop}
use Rattle.cells.proofs.Runs.{window_lt}
use Rattle.receive.specs.Field.{device, page, end, passed_over, in_place, least, most}
use Rattle.receive.specs.Read.{kind_at, field_at}
use Rattle.receive.specs.declared.fields.FieldKind.TheVariants.{Device}
use Rattle.answer.proofs.Passing.{refused_as}
use Rattle.receive.proofs.Judging.{nothing_there, other_tag, no_place, field_spanned, field_unspanned, four_there, sort_02, sort_01, sort_7_f, sort_passed, sort_low, sort_high, page_late, page_in, end_in}
use Rattle.receive.proofs.fields.read_field.Goals as goal

pub returns-then-file-at : goal.returns-then-file-at
unfolding field_at
returns-then-file-at c =
    sym (nothing_there _ _ _ _ c.if-file-at.true)

pub returns-in_err-next-in-2 : goal.returns-in_err-next-in-2
unfolding field_at in_place least most kind_at
returns-in_err-next-in-2 c =
    rw (refused_as _ _ c.from_residual.ensures.1)
    (field_unspanned _ _ _ device 4 4 _ _ _ c.if-file-at.false (sort_02 _ c.in-2.is) refl (eq-eqb _ 0 (omega arith)) refl refl refl c.in_err-next-in-2.ensures)

pub four_bytes-requires : goal.four_bytes-requires
four_bytes-requires c =
    four_there _ _ _ c.in_ok-next-in-2.ensures

pub overflow_cast-next : goal.overflow_cast-next
overflow_cast-next c =
    let a = c.args in omega (arith, c.four_bytes.ensures, window_lt (drop (a.at + 3) a.file.now) 4 4 (omega arith))

pub returns-in_err-next-in-1 : goal.returns-in_err-next-in-1
unfolding field_at in_place least most kind_at
returns-in_err-next-in-1 c =
    rw (refused_as _ _ c.from_residual-in_err-next-in-1.ensures.1)
    (field_unspanned _ _ _ page 256 256 _ _ _ c.if-file-at.false (sort_01 _ c.in-1.is) refl (page_in _ c.if-seen-ne0.true (omega arith)) refl refl refl c.in_err-next-in-1.ensures)

pub returns-in_err-span_of-in-127 : goal.returns-in_err-span_of-in-127
unfolding field_at in_place least most kind_at
returns-in_err-span_of-in-127 c =
    rw (refused_as _ _ c.from_residual-in_err-span_of-in-127.ensures.1)
    (field_unspanned _ _ _ end 0 0 _ _ _ c.if-file-at.false (sort_7_f _ c.in-127.is) refl (end_in _ c.if-seen-ne0-2.true) refl refl refl c.in_err-span_of-in-127.ensures)

pub returns-in_err-span_of-in-64-to-111 : goal.returns-in_err-span_of-in-64-to-111
unfolding field_at in_place least most kind_at
returns-in_err-span_of-in-64-to-111 c =
    rw (refused_as _ _ c.from_residual-in_err-span_of-in-64-to-111.ensures.1)
    (field_unspanned _ _ _ passed_over 0 65535 _ _ _ c.if-file-at.false (sort_passed _ (omega arith) (omega arith)) refl refl refl refl refl c.in_err-span_of-in-64-to-111.ensures)

pub returns-in_ok-next-in-2 : goal.returns-in_ok-next-in-2
unfolding field_at in_place least most kind_at
returns-in_ok-next-in-2 c =
    field_spanned _ _ _ device 4 4 _ _ c.if-file-at.false (sort_02 _ c.in-2.is) refl (eq-eqb _ 0 (omega arith)) refl refl (ap Device (sym c.four_bytes.ensures)) c.in_ok-next-in-2.ensures

pub returns-in_ok-next-in-1 : goal.returns-in_ok-next-in-1
unfolding field_at in_place least most kind_at
returns-in_ok-next-in-1 c =
    field_spanned _ _ _ page 256 256 _ _ c.if-file-at.false (sort_01 _ c.in-1.is) refl (page_in _ c.if-seen-ne0.true (omega arith)) refl refl refl c.in_ok-next-in-1.ensures

pub returns-in_ok-span_of-in-127 : goal.returns-in_ok-span_of-in-127
unfolding field_at in_place least most kind_at
returns-in_ok-span_of-in-127 c =
    field_spanned _ _ _ end 0 0 _ _ c.if-file-at.false (sort_7_f _ c.in-127.is) refl (end_in _ c.if-seen-ne0-2.true) refl refl refl c.in_ok-span_of-in-127.ensures

pub returns-in_ok-span_of-in-64-to-111 : goal.returns-in_ok-span_of-in-64-to-111
unfolding field_at in_place least most kind_at
returns-in_ok-span_of-in-64-to-111 c =
    field_spanned _ _ _ passed_over 0 65535 _ _ c.if-file-at.false (sort_passed _ (omega arith) (omega arith)) refl refl refl refl refl c.in_ok-span_of-in-64-to-111.ensures

pub returns-in_default : goal.returns-in_default
unfolding field_at in_place
returns-in_default c =
    sym (no_place _ _ _ _ device c.if-file-at.false (sort_02 _ c.in-2.is) refl (ne_eqb _ 0 (λ e. omega arith)))

pub returns-in_default-2 : goal.returns-in_default-2
unfolding field_at in_place
returns-in_default-2 c =
    sym (no_place _ _ _ _ page c.if-file-at.false (sort_01 _ c.in-1.is) refl (page_late c.args.seen (omega arith)))

pub returns-in_default-3 : goal.returns-in_default-3
unfolding field_at in_place
returns-in_default-3 c =
    sym (no_place _ _ _ _ page c.if-file-at.false (sort_01 _ c.in-1.is) refl (rw c.if-seen-ne0.false refl))

pub returns-in_default-4 : goal.returns-in_default-4
unfolding field_at in_place
returns-in_default-4 c =
    sym (no_place _ _ _ _ end c.if-file-at.false (sort_7_f _ c.in-127.is) refl (rw c.if-seen-ne0-2.false refl))

pub returns-in_default-5 : goal.returns-in_default-5
unfolding field_at
returns-in_default-5 c =
    sym (other_tag _ _ _ _ c.if-file-at.false (sort_low _ (λ e. omega arith) (λ e. omega arith) (λ e. omega arith) (omega arith)))

pub returns-in_default-6 : goal.returns-in_default-6
unfolding field_at
returns-in_default-6 c =
    sym (other_tag _ _ _ _ c.if-file-at.false (sort_high _ (λ e. omega arith) (λ e. omega arith) (λ e. omega arith) (omega arith)))
