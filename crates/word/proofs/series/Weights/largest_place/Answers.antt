-- `word::series::Weights::largest_place` meets its contract: the place is near by the count of leading zeros, and is counted down.
-- Assumes nothing.
use mathlib.Core.Path.{refl}
use native.Mathlib.Omega.{arith}
use Rattle.word.proofs.Encoding.{largest_place}
use Rattle.word.proofs.series.Weights.largest_place.Goals as goal

pub overflow_sub-result : goal.overflow_sub-result
overflow_sub-result c =
    (largest_place _ _ _ c.requires (omega arith) _ refl c.beyond.ensures c.beyond-2.ensures).0

pub returns : goal.returns
returns c =
    (largest_place _ _ _ c.requires (omega arith) _ refl c.beyond.ensures c.beyond-2.ensures).1
