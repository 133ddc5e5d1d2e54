-- The words of a page: after three bytes, words of 46 cells with nothing between. The number of words is a parameter throughout.
-- Assumes nothing.
use Rattle.std.specs.Prelude.{Bool, List, [], ◌∷◌, ◌++◌, ◌≡◌, ℕ, zero, suc, ◌+◌, ◌*◌, ◌/◌, length, take, drop}
use Rattle.cells.specs.Bytes.{bits, bytes}

-- rows of cells, one after another
unfoldable pub join : List (List Bool) → List Bool
join [] = []
join (w ∷ ws) = w ++ join ws

-- n pieces of 46 cells
unfoldable pub pieces : ℕ → List Bool → List (List Bool)
pieces zero l = []
pieces (suc n) l = take 46 l ∷ pieces n (drop 46 l)

-- every element is a word: 46 cells
abbrev pub Words : List (List Bool) → Type 0
Words [] = Unit {0}
Words (w ∷ ws) = (length w ≡ 46) × Words ws

-- the place of word i's cell 0 among the cells of a page
abbrev pub start : ℕ → ℕ
start i = 24 + 46 * i

-- word i of a page
unfoldable pub word_at : List ℕ → ℕ → List Bool
word_at page i = take 46 (drop (start i) (bits page))

-- the first n words of a page
unfoldable pub page_words : List ℕ → ℕ → List (List Bool)
page_words page n = pieces n (drop 24 (bits page))

-- cells with those from place a on replaced by new ones
unfoldable pub splice : ℕ → List Bool → List Bool → List Bool
splice a new l = take a l ++ (new ++ drop (a + length new) l)

-- a page with its cells from place a on replaced by new ones
abbrev pub put_cells : List ℕ → ℕ → List Bool → List ℕ
put_cells page a new = bytes (length page) (splice a new (bits page))

-- a page with word i replaced
unfoldable pub put_word : List ℕ → ℕ → List Bool → List ℕ
put_word page i w = put_cells page (start i) w

-- a page with its first words replaced
unfoldable pub put_words : List ℕ → List (List Bool) → List ℕ
put_words page ws = put_cells page 24 (join ws)

-- the page of these first bytes, words and last bytes
unfoldable pub page_of : List ℕ → List (List Bool) → List ℕ → List ℕ
page_of head ws tail = head ++ (bytes (46 * length ws / 8) (join ws) ++ tail)
