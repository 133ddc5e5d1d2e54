-- `word::series::Weights::encode` meets its contract. The invariant: `rest` is the remainder of the value after the weights that are done, and
-- the word so far has their cells. The measure is what is left.
-- Assumes nothing.
use mathlib.Core.Path.{ap, ◌∙◌}
use native.Mathlib.Omega.{arith}
use Rattle.cells.specs.Cells.{cells}
use Rattle.cells.proofs.Numbers.{cells_of}
use Rattle.word.proofs.Sums.{length_zeckendorf, word_lt}
use Rattle.word.proofs.Encoding.{encode_start, place_small, encode_turn, encode_end}
use Rattle.word.proofs.series.Weights.encode.Goals as goal

pub loop-rest-init : goal.loop-rest-init
loop-rest-init c =
    encode_start c.args.value

pub rest_after-rest-requires : goal.rest_after-rest-requires
rest_after-rest-requires c =
    (place_small _ _ _ _ (omega arith) c.largest_place-n.ensures c.loop-rest.invariant, c.largest_place-n.ensures)

pub overflow_shl-word : goal.overflow_shl-word
overflow_shl-word c =
    omega (arith, place_small _ _ _ _ (omega arith) c.largest_place-n.ensures c.loop-rest.invariant)

pub loop-rest-preserved : goal.loop-rest-preserved
loop-rest-preserved c =
    encode_turn _ _ _ _ _ (omega arith) c.largest_place-n.ensures c.rest_after-rest.ensures.left c.loop-rest.invariant

pub new-requires : goal.new-requires
new-requires c =
    rw (encode_end _ _ _ (omega arith) c.loop-rest.invariant) (word_lt _)

pub returns : goal.returns
returns c =
    c.new.ensures ∙ ap (cells 46) (encode_end _ _ _ (omega arith) c.loop-rest.invariant) ∙ cells_of 46 _ (length_zeckendorf 46 _)
