-- `word::separators::is_well_formed` meets its contract: a word is well formed where its separators are full.
-- Assumes nothing.
use mathlib.Core.Path.{◌∙◌, ap}
use Rattle.word.specs.Fill.{full, well_formed}
use Rattle.word.proofs.separators.is_well_formed.Goals as goal

pub returns : goal.returns
unfolding well_formed
returns c =
    c.is_full.ensures ∙ ap full c.separators_of.ensures
