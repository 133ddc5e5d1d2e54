-- `word::series::Weights::new` meets its contract: the array is the table, by computation.
-- Assumes nothing.
use mathlib.Core.Path.{refl}
use Rattle.word.specs.Weights.{weights}
use Rattle.word.proofs.series.Weights.new.Goals as goal

pub invariant_of-result : goal.invariant_of-result
unfolding weights
invariant_of-result c = record { known = refl }
