-- `word::series::Weights::weight` meets its contract: the table's rule at entry n.
-- Assumes nothing.
use Rattle.word.proofs.Weights.{weights_at}
use Rattle.word.proofs.series.Weights.weight.Goals as goal

pub returns : goal.returns
returns c =
    rw c.args.self.now.known (weights_at _ c.requires)
