-- `walk::zero_run` meets its contract: the leading zeros of the cells and the two marks are the run.
-- Assumes nothing.
use Rattle.walk.proofs.Runs.{zeros_run}
use Rattle.walk.proofs.zero_run.Goals as goal

pub returns : goal.returns
returns c =
    zeros_run c.args.word c.args.n c.args.k c.requires.0 c.requires.1 c.requires.2
