-- The Inspect code (document 02, Change 7) on a row of words: each word is walked from its cell 0, and the bits that one word leaves go to
-- the next. And the code, as rows/specs/Code.antt has codes of second records.
-- Assumes nothing.
use Rattle.std.specs.Prelude.{Bool, false, List, [], ◌∷◌, ◌++◌, ℕ, ◌+◌, ◌-◌, length, drop}
use Rattle.word.specs.Word.{legal}
use Rattle.rows.specs.Page.{state_first, state_inspect}
use Rattle.rows.specs.Code.{Code}
use Rattle.walk.specs.Walk.{walked, taken, read_up_to, unwalked}

-- the words after the writer's walks
unfoldable pub walked_all : List (List Bool) → List Bool → List (List Bool)
walked_all [] bs = []
walked_all (w ∷ ws) bs = walked w bs ∷ walked_all ws (drop (taken w bs) bs)

-- "the number of record bits that all the words' walks take"
unfoldable pub taken_all : List (List Bool) → List Bool → ℕ
taken_all [] bs = 0
taken_all (w ∷ ws) bs = taken w bs + taken_all ws (drop (taken w bs) bs)

-- the bits that the reader's walks find where n are wanted: "before the length in byte 1 is reached", now in bytes 1 and 2
unfoldable pub read_all_up_to : ℕ → List (List Bool) → List Bool
read_all_up_to n [] = []
read_all_up_to n (w ∷ ws) = read_up_to n w ++ read_all_up_to (n - length (read_up_to n w)) ws

-- the words "with the read 11 pairs put to 00"
unfoldable pub unwalked_all : ℕ → List (List Bool) → List (List Bool)
unwalked_all n [] = []
unwalked_all n (w ∷ ws) = unwalked n w ∷ unwalked_all (n - length (read_up_to n w)) ws

-- the Inspect code, "on unfilled first-round pages": nothing comes ahead; "under this one a record fits when the words' walks take all its
-- bits"; no cell after the record's last bit is asked for, since "later cells keep their first-round contents"
abbrev pub inspect_code : Code
inspect_code = record {
  over = state_first;
  takes = legal;
  prepare = λ ws. ws;
  room = taken_all;
  put = walked_all;
  into = state_inspect;
  found = read_all_up_to;
  judged = unwalked_all;
  passes = legal;
  spare = λ n ws. false;
  least = 23;
  most = 45;
}
