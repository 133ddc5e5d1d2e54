-- The fill before Change 6 of document 02, as document 01 has it: it also set the last cell where that cell and the one before it were 0.
-- Words of pages that were filled then are told by it. Over any number of cells.
-- Assumes nothing.
use Rattle.std.specs.Prelude.{Bool, false, not, ◌||◌, List, [], ◌∷◌, ℕ, length}
use Rattle.cells.specs.Cells.{first, kept}
use Rattle.word.specs.Fill.{read, clear}

-- "a neighbour outside the word counts as 0". `left` is the cell before, after the fill
unfoldable pub earlier_from : Bool → List Bool → List Bool
earlier_from left [] = []
earlier_from left (c ∷ cs) = (c || not (left || first cs)) ∷ earlier_from (c || not (left || first cs)) cs

unfoldable pub fill_earlier : List Bool → List Bool
fill_earlier w = earlier_from false w

-- the number of a word's data cells after that fill
unfoldable pub capacity_earlier : List Bool → ℕ
capacity_earlier w = length (read (fill_earlier w))

-- "well formed" by that fill: with its data cells put to 0, no cell of a word could still be set by it
unfoldable pub well_formed_earlier : List Bool → Bool
well_formed_earlier w = kept (fill_earlier (clear w)) (clear w)
