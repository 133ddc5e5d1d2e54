-- `word::series::Weights::sum` meets its contract: the sum of the cells after cell 0, and cell 0's weight where that cell is set.
-- Assumes nothing.
use mathlib.Core.Path.{sym, ap, ◌∙◌}
use native.Mathlib.Omega.{arith}
use Rattle.word.specs.Word.{sum, sparse}
use Rattle.word.proofs.Totals.{others_fit, first_clear, first_set}
use Rattle.word.proofs.series.Weights.sum.Goals as goal

pub small_sum-low-requires : goal.small_sum-low-requires
small_sum-low-requires c =
    rw c.new.ensures (others_fit _ (ap sparse c.bits-bits.ensures.cells ∙ c.requires))

pub returns-then-bits-lt35184372088832 : goal.returns-then-bits-lt35184372088832
returns-then-bits-lt35184372088832 c =
    c.small_sum-low.ensures ∙ ap sum c.new.ensures ∙ sym (first_clear _ c.if-bits-lt35184372088832.true) ∙ ap sum c.bits-bits.ensures.cells

pub returns-else-bits-lt35184372088832 : goal.returns-else-bits-lt35184372088832
returns-else-bits-lt35184372088832 c =
    omega (
      arith,
      c.weight.ensures,
      c.small_sum-low.ensures,
      ap sum c.new.ensures,
      first_set _ c.if-bits-lt35184372088832.false c.bits-bits.ensures.few,
      ap sum c.bits-bits.ensures.cells,
    )
