-- `word::series::Weights::encode` meets its contract. The invariant: `rest` is the remainder of the value after the weights that are done, and
-- the word so far has their cells. The measure is what is left.
-- Assumes nothing.
use Rattle.word.specs.Steps.{EncoderHolds}
use Rattle.word.proofs.series.Weights.encode.Given as goal

abbrev pub invariant-loop-rest : goal.invariant-loop-rest
invariant-loop-rest l = EncoderHolds l.value l.word l.rest

abbrev pub decreases-loop-rest : goal.decreases-loop-rest
decreases-loop-rest l = l.rest
