-- Codes of second records (document 02, Change 7: "another code"). A code says what a second record is to the words of a page; all else of a
-- page that holds one is the same text for each code. The fill code stands here, the Inspect code in inspect/specs/Rows.antt.
-- Assumes nothing.
use Rattle.std.specs.Prelude.{Bool, false, List, [], ◌≡◌, ℕ, ◌*◌, ◌/◌, ◌≤◌, ◌<◌, T, length, drop, get_or}
use Rattle.cells.specs.Cells.{some_set}
use Rattle.cells.specs.Bytes.{bits, bytes, Bytes, zeros}
use Rattle.window.specs.Words.{page_words, put_words}
use Rattle.word.specs.Fill.{well_formed, is_filled}
use Rattle.rows.specs.declared.shape.Shape.{Shape}
use Rattle.rows.specs.Page.{state, tail, state_filled, state_second, record_length, with_header, fill_all, read_all, put_all, OpenOf}

pub record Code : Type 0 where
  -- the state of the page that its writer takes, and the test of that page's words
  pub over : ℕ
  pub takes : List Bool → Bool
  -- what first-round words become in the step ahead of the writer
  pub prepare : List (List Bool) → List (List Bool)
  -- how many bits the words take, given the record's; and the words with the bits in them
  pub room : List (List Bool) → List Bool → ℕ
  pub put : List (List Bool) → List Bool → List (List Bool)
  -- the state that its writer leaves and its reader takes
  pub into : ℕ
  -- where so many bits are wanted: the bits that reading finds, which begin with the record's; the words that 7 judges, and their test; whether
  -- a spare data cell is set
  pub found : ℕ → List (List Bool) → List Bool
  pub judged : ℕ → List (List Bool) → List (List Bool)
  pub passes : List Bool → Bool
  pub spare : ℕ → List (List Bool) → Bool
  -- the fewest and the most bits that a word takes, where there are enough
  pub least : ℕ
  pub most : ℕ

-- the fill code: a filled page takes the record's bits in its data cells, and leaves the spare ones 0
abbrev pub fill_code : Code
fill_code = record {
  over = state_filled;
  takes = is_filled;
  prepare = fill_all;
  room = λ ws bs. length (read_all ws);
  put = put_all;
  into = state_second;
  found = λ n ws. read_all ws;
  judged = λ n ws. ws;
  passes = well_formed;
  spare = λ n ws. some_set (drop n (read_all ws));
  least = 15;
  most = 23;
}

-- ---- the figures of a code on a page

-- "the limit of that code and page", the bytes of the longest record: by the fill code 126, and 253 of 512 bytes; by the Inspect code 247 and
-- 495
abbrev pub longest : Code → Shape → ℕ
longest c s = c.most * s.words / 8

-- the bytes of the record that is sure to fit: by the fill code 82, and 165 of 512 bytes; by the Inspect code 126 and 253
abbrev pub sure : Code → Shape → ℕ
sure c s = c.least * s.words / 8

-- ---- writing

-- how many bits of a record the words of a page take
abbrev pub room_for : Code → Shape → List ℕ → List ℕ → ℕ
room_for c s page bs = c.room (page_words page s.words) (bits bs)

-- ... and those of a first-round page, after the step ahead
abbrev pub room_ahead : Code → Shape → List ℕ → List ℕ → ℕ
room_ahead c s page bs = c.room (c.prepare (page_words page s.words)) (bits bs)

-- what a code's writer leaves of the page that it takes: its state, the length, and the record's bits (highest bit of each byte first)
unfoldable pub written_of : Code → Shape → List ℕ → List ℕ → List ℕ
written_of c s page bs = put_words (with_header c.into (length bs) page) (c.put (page_words page s.words) (bits bs))

-- the term "outcome": every byte of a first-round page after a record was written over it by the code's own writing. By the fill code: "fills
-- all 44 words, puts the record's bits (highest bit of each byte first) in the data cells, leaves the spare data cells 0, and writes byte 1 and
-- state 07", now byte 2 too
unfoldable pub outcome_of : Code → Shape → List ℕ → List ℕ → List ℕ
outcome_of c s page bs = put_words (with_header c.into (length bs) page) (c.put (c.prepare (page_words page s.words)) (bits bs))

-- ---- reading

-- the bits that reading finds on a page with a second record, the words of it that 7 judges, and whether a spare data cell is set
abbrev pub found_of : Code → Shape → List ℕ → List Bool
found_of c s page = c.found (8 * record_length page) (page_words page s.words)

abbrev pub judged_of : Code → Shape → List ℕ → List (List Bool)
judged_of c s page = c.judged (8 * record_length page) (page_words page s.words)

abbrev pub spare_of : Code → Shape → List ℕ → Bool
spare_of c s page = c.spare (8 * record_length page) (page_words page s.words)

-- the record that such a page holds: as many bytes as its length says, of the bits found
unfoldable pub record_of : Code → Shape → List ℕ → List ℕ
record_of c s page = bytes (record_length page) (found_of c s page)

-- ---- terms

-- a page that a code's writer takes
abbrev pub ReadyOf : Code → Shape → List ℕ → Type 0
ReadyOf c s page = OpenOf c.over c.takes s page

-- the term "fits": the words take 8 times the record's length in bytes; by the fill code that is at most the page's capacity
pub record FitsOf (c : Code) (s : Shape) (bs page : List ℕ) : Type 0 where
  pub of_bytes : Bytes bs
  pub enough : 8 * length bs ≤ room_ahead c s page bs

-- every word that 7 judges passes
abbrev pub AllJudgedOf : Code → Shape → List ℕ → Type 0
AllJudgedOf c s page = (j : ℕ) → j < s.words → T (c.passes (get_or (judged_of c s page) j []))

-- a page that a code's reader accepts, given output enough (document 01 has no term for it): its state, a length that the code allows, the bytes
-- after the words at 0, all judged words pass, bits enough for the record, and no spare data cell set
pub record SecondRoundOf (c : Code) (s : Shape) (page : List ℕ) : Type 0 where
  pub sized : length page ≡ s.size
  pub of_bytes : Bytes page
  pub in_state : state page ≡ c.into
  pub length_most : record_length page ≤ longest c s
  pub tail_zero : T (zeros (tail s.words page))
  pub words_pass : AllJudgedOf c s page
  pub bits_enough : 8 * record_length page ≤ length (found_of c s page)
  pub spare_zero : spare_of c s page ≡ false
