-- The whole listing of an input, and the turns by which a program writes it (document 01, "The listing program").
-- Assumes nothing.
use Rattle.std.specs.Prelude.{Bool, cond, ◌&&◌, Option, Some, None, List, [], ◌∷◌, ◌++◌, ℕ, zero, suc, ◌+◌, eqb, ltb, length, take, drop}
use Rattle.cells.specs.Bytes.{at_start}
use Rattle.report.specs.Kinds.{kind_of}
use Rattle.report.specs.Lines.{line_of}

-- "It reads standard input as pages, one after another": so many at most. A last piece may be shorter than a page
unfoldable pub pieces_from : ℕ → List ℕ → List (List ℕ)
pieces_from zero l = []
pieces_from (suc k) [] = []
pieces_from (suc k) (b ∷ l) = take 256 (b ∷ l) ∷ pieces_from k (drop 256 (b ∷ l))

-- it "stops after 4,096 pages"
unfoldable pub pieces_of : List ℕ → List (List ℕ)
pieces_of l = pieces_from 4096 l

-- "For each page it prints one line", from an index on
unfoldable pub lines_from : ℕ → List (List ℕ) → List ℕ
lines_from index [] = []
lines_from index (piece ∷ ps) = line_of index (kind_of piece) ++ lines_from (suc index) ps

abbrev pub listing_from : ℕ → ℕ → List ℕ → List ℕ
listing_from k index l = lines_from index (pieces_from k l)

-- the whole output: "page index from 0"
unfoldable pub listing_of : List ℕ → List ℕ
listing_of l = lines_from 0 (pieces_of l)

-- ---- turns: that of the page with an index, or none

-- what is written in the turn of a page, by the piece that came: nothing where none did
unfoldable pub turn_line : ℕ → List ℕ → List ℕ
turn_line index [] = []
turn_line index (b ∷ l) = line_of index (kind_of (b ∷ l))

-- the first turn: "page index from 0"
abbrev pub first_turn : Option ℕ
first_turn = Some 0

-- the turn after that of a page: the next page's where the line was written, the piece was a whole page, so that there may be another, and
-- the pages listed are fewer than 4,096
unfoldable pub next_turn : ℕ → ℕ → Bool → Option ℕ
next_turn index n written = cond (written && eqb n 256 && ltb (index + 1) 4096) (Some (index + 1)) None

-- the buffer refilled: what comes of the input at its start, what it held before after that
abbrev pub refilled : List ℕ → List ℕ → List ℕ
refilled page l = at_start (take 256 l) page

-- what so many turns at most write, from a turn, a buffer and the input left; whether a page's line can be written goes by its index
unfoldable pub turns_from : (ℕ → Bool) → ℕ → Option ℕ → List ℕ → List ℕ → List ℕ
turns_from written zero turn page l = []
turns_from written (suc k) None page l = []
turns_from written (suc k) (Some index) page l =
    turn_line index (take (length (take 256 l)) (refilled page l))
    ++ turns_from written k (next_turn index (length (take 256 l)) (written index)) (refilled page l) (drop 256 l)
