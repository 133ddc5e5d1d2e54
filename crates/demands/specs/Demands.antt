-- The customer's three demands, clause by clause, in the terms of document 01 and of document 02, Changes 2, 3 and 6 to 9.
-- proofs/Demands.antt proves each.
-- The contracts in src/ of word, page, filled, second, inspect and wom tie the running code to `decode_answer`, `write_first_answer`,
-- `write_first_leaves` and the others of specs/Answer.antt in word, page, filled, second and inspect: what each operation answers, and what each
-- buffer holds afterwards, for every value, word, page, record and output.
--
-- There are two codes of second records, `fill_code` (rows/specs/Code.antt) and `inspect_code` (inspect/specs/Rows.antt). What is demanded of a code
-- stands once, over any code: `WriterOf`, `ReaderOf`, `TwiceWrittenOf`, `WritingOf`; the three demands ask it of both. By definition
-- `write_second_answer` is `write_answer fill_code`, `read_inspect_leaves` is `read_leaves inspect_code`, and so on.
--
-- There are two shapes of page, `page256` and `page512` (rows/specs/Page.antt). Each answer goes by the page's own, `shape_of P`, which its length
-- names. Demand 1 speaks of every page by its own shape. What demands 2 and 3 say stands once, over a shape s, and is asked of both.
--
-- How to read a clause:
--   (w : ℕ) →              for every word w, held as a number: its cells are `cells 46 w`, cell 0 first
--   (P R : List ℕ) →       for every page P and every record R; a page, a record, an output is its list of bytes
--   A → B, A ↔ B           if A then B; A just when B
--   A × B, A ⊎ B, ¬ A      A and B; A or B; not A
--   (D : List ℕ) × A       there is a D for which A holds
--   x ≡ y                  x and y are the same, of lists: in length and in every element
--   T b                    the test b holds; b ≡ false: it does not
--   Bytes P                each element is below 256, as it is in every slice of the code
--   get_or P i 0           byte i of P, 0 after its end; `take`, `drop`: the first so many, the others; `++`: one after another
--   result v, refusal n i  the answer is the result v; it is refusal number n with index i; `result (v, p)`: the results v and p
--   c.into, c.put ..       of the code c: its parts, which rows/specs/Code.antt explains
-- Assumes nothing.
use Rattle.std.specs.Prelude.{Bool, List, [], ◌∷◌, ◌++◌, ◌↔◌, ◌⊎◌, ◌≡◌, ℕ, ◌+◌, ◌*◌, ◌/◌, ◌%◌, ◌≤◌, ◌<◌, T, length, take, drop, get_or}
use Rattle.cells.specs.Cells.{number, cells, bit, pulses}
use Rattle.cells.specs.Bytes.{bits, Bytes, zeros}
use Rattle.answer.specs.Answer.{Answer, result, refusal, RefusesBy}
use Rattle.window.specs.Words.{word_at, page_words}
use Rattle.word.specs.Word.{sum, legal, legal_word, zeckendorf}
use Rattle.word.specs.Fill.{fill, set_before_last, is_filled}
use Rattle.word.specs.Answer.{encode_answer, decode_answer, fill_answer, capacity_answer}
use Rattle.word.specs.Claims.{WordRefusals}
use Rattle.rows.specs.declared.shape.Shape.{Shape}
use Rattle.rows.specs.Page.{page256, page512, shape_of, state, state_first, state_filled, byte1, byte2, tail, record_length, blank_of, FirstRoundOf, FilledOf, fill_all, capacity_all}
use Rattle.rows.specs.Code.{Code, fill_code, longest, sure, room_for, room_ahead, found_of, judged_of, spare_of, ReadyOf, FitsOf, AllJudgedOf, SecondRoundOf, outcome_of}
use Rattle.page.specs.Terms.{SizedOf, HeaderOf, RecordHeaderOf, TailSetOf, RestSetOf, LowestBad, RefusalsOf}
use Rattle.page.specs.Answer.{write_first_answer, write_first_leaves, read_first_answer, read_first_leaves, write_answer, write_leaves, read_answer, read_leaves}
use Rattle.filled.specs.Answer.{pulses_of, fill_page_answer, fill_page_leaves, page_capacity_answer}
use Rattle.second.specs.Answer.{write_second_answer}
use Rattle.inspect.specs.Rows.{inspect_code}

-- ---- the shapes

-- s is the shape of a page of 256 bytes or of one of 512
abbrev pub Known : Shape → Type 0
Known s = (s ≡ page256) ⊎ (s ≡ page512)

-- the number of data cells of filled words. "A separator is a set cell of a filled word. A data cell is the cell right after a separator in
-- the same word": a word has one for each set cell but one in cell 45
unfoldable pub data_cells_all : List (List Bool) → ℕ
data_cells_all [] = 0
data_cells_all (w ∷ ws) = set_before_last w + data_cells_all ws

-- the number of a page's data cells after the fill: of the cells right after a separator in the same word
abbrev pub data_cells_of : Shape → List ℕ → ℕ
data_cells_of s P = data_cells_all (fill_all (page_words P s.words))

-- the number of a filled page's data cells: its words are filled already
abbrev pub filled_cells_of : Shape → List ℕ → ℕ
filled_cells_of s P = data_cells_all (page_words P s.words)

-- the value of word i of a first record: four bytes, highest first
abbrev pub value_at : List ℕ → ℕ → ℕ
value_at D i = number (bits (take 4 (drop (4 * i) D)))

-- ---- a page by its own shape

abbrev pub Sized : List ℕ → Type 0
Sized P = SizedOf (shape_of P) P

abbrev pub FirstRound : List ℕ → Type 0
FirstRound P = FirstRoundOf (shape_of P) P

abbrev pub Filled : List ℕ → Type 0
Filled P = FilledOf (shape_of P) P

abbrev pub FirstHeader : List ℕ → Type 0
FirstHeader P = HeaderOf state_first (shape_of P) P

abbrev pub FilledHeader : List ℕ → Type 0
FilledHeader P = HeaderOf state_filled (shape_of P) P

abbrev pub FirstRefusals : List ℕ → Answer → Type 0
FirstRefusals P a = RefusalsOf state_first legal (shape_of P) P a

abbrev pub words : List ℕ → List (List Bool)
words P = page_words P (shape_of P).words

-- the bytes after the words
abbrev pub tail_of : List ℕ → List ℕ
tail_of P = tail (shape_of P).words P

-- ---- what is demanded of a code

-- Demand 1 of a code's writer, on every page and every record.
pub record WriterOf (c : Code) : Type 0 where
  pub accepted : (P R : List ℕ) (v : ℕ) → Bytes P
      → (write_answer c P R ≡ result v) ↔ (ReadyOf c (shape_of P) P × (8 * length R ≤ room_for c (shape_of P) P R) × (v ≡ 0))
  -- write second: "1, 5 for a state other than 03, 6, 7 for a word that is not well formed or has a data cell set, then 8", with the page's
  -- capacity, "if 8 times the record's length exceeds it"; write Inspect: "1, 5, 6, 7 as read first, then 8 when the last word's walk ends before
  -- the record does, with the number of record bits that all the words' walks take"
  pub refused_1567 : (P R : List ℕ) → RefusalsOf c.over c.takes (shape_of P) P (write_answer c P R)
  pub refused_8 : (P R : List ℕ) (k : ℕ) → Bytes P
      → (write_answer c P R ≡ refusal 8 k) ↔ (ReadyOf c (shape_of P) P × (k ≡ room_for c (shape_of P) P R) × (k < 8 * length R))
  -- there is no other number, and "a refused call writes no byte of any buffer"
  pub refused_by : (P R : List ℕ) → RefusesBy (1 ∷ 5 ∷ 6 ∷ 7 ∷ 8 ∷ []) (write_answer c P R)
  pub refused_leaves : (P R : List ℕ) (n i : ℕ) → write_answer c P R ≡ refusal n i → write_leaves c P R ≡ P

-- Demand 1 of a code's reader, on every page and with every output.
pub record ReaderOf (c : Code) : Type 0 where
  pub accepted : (P out : List ℕ) (n : ℕ) → Bytes P
      → (read_answer c P out ≡ result n) ↔ (SecondRoundOf c (shape_of P) P × (n ≡ record_length P) × (n ≤ length out))
  -- read second: "1, then 5 if the state is not 07", 6, "7 with the lowest index of a word not well formed, 9 if 8 times" the length "exceeds the
  -- number of data cells or a spare data cell is 1, 3 if the output is shorter than the record"; read Inspect: "1, 5 for a state other than 09", 6,
  -- "7 with the lowest index of a word not legal so, 9 when the walk ends before that length is reached, then 3". "For states 07 and 09 refusal 6 now
  -- means a length above the limit of that code and page, which is 126 and 247, or 253 and 495, or on 512 bytes one of bytes 509 to 511 not 0"
  pub refused_1 : (P out : List ℕ) (i : ℕ) → (read_answer c P out ≡ refusal 1 i) ↔ (¬ SizedOf (shape_of P) P × (i ≡ 0))
  pub refused_5 : (P out : List ℕ) (i : ℕ) → (read_answer c P out ≡ refusal 5 i) ↔ (SizedOf (shape_of P) P × ¬ (state P ≡ c.into) × (i ≡ 0))
  pub refused_6 : (P out : List ℕ) (i : ℕ) → (read_answer c P out ≡ refusal 6 i)
      ↔ (SizedOf (shape_of P) P × (state P ≡ c.into) × ((longest c (shape_of P) < record_length P) ⊎ TailSetOf (shape_of P) P) × (i ≡ 0))
  pub refused_7 : (P out : List ℕ) (i : ℕ) → (read_answer c P out ≡ refusal 7 i)
      ↔ (RecordHeaderOf c (shape_of P) P × LowestBad c.passes (judged_of c (shape_of P) P) i)
  pub judged_words : (P : List ℕ) → length (judged_of c (shape_of P) P) ≡ (shape_of P).words
  pub refused_9 : (P out : List ℕ) (i : ℕ) → (read_answer c P out ≡ refusal 9 i)
      ↔ (RecordHeaderOf c (shape_of P) P × AllJudgedOf c (shape_of P) P
      × ((length (found_of c (shape_of P) P) < 8 * record_length P) ⊎ T (spare_of c (shape_of P) P)) × (i ≡ 0))
  pub refused_3 : (P out : List ℕ) (i : ℕ) → Bytes P
      → (read_answer c P out ≡ refusal 3 i) ↔ (SecondRoundOf c (shape_of P) P × (length out < record_length P) × (i ≡ 0))
  pub refused_by : (P out : List ℕ) → RefusesBy (1 ∷ 5 ∷ 6 ∷ 7 ∷ 9 ∷ 3 ∷ []) (read_answer c P out)
  pub refused_leaves : (P out : List ℕ) (n i : ℕ) → read_answer c P out ≡ refusal n i → read_leaves c P out ≡ out

-- Demand 2's second sentence, of a code with its own writing, on pages of a shape. `ahead` is the step ahead of its writer on a first-round page:
-- fill page, or nothing.
pub record TwiceWrittenOf (c : Code) (ahead : List ℕ → List ℕ) (s : Shape) : Type 0 where
  -- "With an output long enough, a page is accepted as twice written exactly when filling some first-round page and writing some record over it
  -- gives those 256 bytes"; Inspect: "The reader accepts exactly what some first-round page and record give". It "covers all bytes of a page's
  -- own size"
  pub twice_written : (page out : List ℕ) → SizedOf s page → Bytes page → record_length page ≤ length out
      → ((n : ℕ) × (read_answer c page out ≡ result n))
      ↔ ((P : List ℕ) × (R : List ℕ) × FirstRoundOf s P × FitsOf c s R P × (write_leaves c (ahead P) R ≡ page))
  -- the pages that the writer takes are exactly what the step ahead leaves of first-round pages
  pub ready : (F : List ℕ) → ReadyOf c s F ↔ ((P : List ℕ) × FirstRoundOf s P × (ahead P ≡ F))

-- Demand 3 of a code with its own writing, without the figures of the fill code. For all first-round pages P and Q of a shape, every record R
-- that fits P and every record S that fits Q: ...
pub record WritingOf (c : Code) (ahead : List ℕ → List ℕ) (s : Shape) : Type 0 where
  -- "writing R over P is accepted, leaves exactly the outcome that the rules define": writing over what the step ahead leaves
  pub accepted : (P R : List ℕ) → FirstRoundOf s P → FitsOf c s R P
      → (write_answer c (ahead P) R ≡ result 0) × (write_leaves c (ahead P) R ≡ outcome_of c s P R)
  -- the outcome's header, words and last bytes, without a look at `put_words` (specs/Outcome.antt has each word): "two bytes, byte 1 low and byte 2
  -- high"
  pub header : (P R : List ℕ) → FirstRoundOf s P → FitsOf c s R P
      → (state (outcome_of c s P R) ≡ c.into) × (byte1 (outcome_of c s P R) ≡ length R % 256) × (byte2 (outcome_of c s P R) ≡ length R / 256)
      × (record_length (outcome_of c s P R) ≡ length R)
  pub outcome_words : (P R : List ℕ) → FirstRoundOf s P → FitsOf c s R P
      → page_words (outcome_of c s P R) s.words ≡ c.put (c.prepare (page_words P s.words)) (bits R)
  pub outcome_tail : (P R : List ℕ) → FirstRoundOf s P → FitsOf c s R P → T (zeros (tail s.words (outcome_of c s P R)))
  -- "and clears no cell in any byte of P": a bit that is set in a byte of P is set in that byte of what the step ahead leaves, one that is set
  -- there is set in the outcome, and so from P to the outcome; each has the page's own size
  pub ahead_clears_none : (P : List ℕ) → FirstRoundOf s P → (i b : ℕ) → T (bit (get_or P i 0) b) → T (bit (get_or (ahead P) i 0) b)
  pub writing_clears_none : (P R : List ℕ) → FirstRoundOf s P → FitsOf c s R P
      → (i b : ℕ) → T (bit (get_or (ahead P) i 0) b) → T (bit (get_or (outcome_of c s P R) i 0) b)
  pub no_cell_cleared : (P R : List ℕ) → FirstRoundOf s P → FitsOf c s R P
      → (i b : ℕ) → T (bit (get_or P i 0) b) → T (bit (get_or (outcome_of c s P R) i 0) b)
  pub ahead_sized : (P : List ℕ) → FirstRoundOf s P → (length (ahead P) ≡ s.size) × Bytes (ahead P)
  pub still_sized : (P R : List ℕ) → FirstRoundOf s P → FitsOf c s R P → (length (outcome_of c s P R) ≡ s.size) × Bytes (outcome_of c s P R)
  -- "where writing refuses 8, the page remains filled": a record that does not fit P is refused, and what the step ahead left stays
  pub remains : (P R : List ℕ) → FirstRoundOf s P → room_ahead c s P R < 8 * length R
      → (write_answer c (ahead P) R ≡ refusal 8 (room_ahead c s P R)) × (write_leaves c (ahead P) R ≡ ahead P)
  -- "reading the outcome alone, into any output long enough and whatever that held, gives the length and the bytes of R"
  pub read_back : (P R out : List ℕ) → FirstRoundOf s P → FitsOf c s R P → length R ≤ length out
      → (read_answer c (outcome_of c s P R) out ≡ result (length R)) × (read_leaves c (outcome_of c s P R) out ≡ R ++ drop (length R) out)
  -- "where R and S differ, in length or in a byte, the outcome of R over P and that of S over Q differ in at least one byte, whether P and
  -- Q are alike or not"
  pub differ : (P Q R S : List ℕ) → FirstRoundOf s P → FirstRoundOf s Q → FitsOf c s R P → FitsOf c s S Q → ¬ (R ≡ S)
      → (i : ℕ) × (i < s.size) × ¬ (get_or (outcome_of c s P R) i 0 ≡ get_or (outcome_of c s Q S) i 0)
  -- a record that is short enough fits each first-round page, and one that fits is no longer than the limit of that code and page
  pub always_in : (P R : List ℕ) → FirstRoundOf s P → Bytes R → length R ≤ sure c s → FitsOf c s R P
  pub never_in : (P R : List ℕ) → FirstRoundOf s P → FitsOf c s R P → length R ≤ longest c s

-- Demand 1. Each operation accepts exactly the pages and records that the rules describe, of every length, and ends. Everything else it
-- refuses by the number in the document, without relying on a prior check, and a refused call writes no byte of any buffer.
-- (The contracts have no `requires`, and a proved function returns. Word operations have no buffers; buffers that are only read cannot be
-- written, by their type.)
pub record Demand1 : Type 0 where
  -- "accepts exactly".
  -- Encode a word: "Takes a 32-bit value, returns its legal word", the one whose sum the value is; it is the Zeckendorf word
  pub encode_word : (value w : ℕ) → value ≤ 4294967295 → (encode_answer value ≡ result w) ↔ (T (legal_word w) × (value ≡ sum (cells 46 w)))
  pub encode_zeckendorf : (value w : ℕ) → value ≤ 4294967295
      → (encode_answer value ≡ result w) ↔ (T (legal_word w) × (w ≡ number (zeckendorf 46 value)))
  -- Decode, fill, or measure a word: the legal words. "Returns value, filled word, or capacity": the number of data cells after the fill. The
  -- word fill returns, "besides the word, how many cells it newly set": its pulses, set cells after minus set cells before
  pub decode_word : (w v : ℕ) → (decode_answer w ≡ result v) ↔ (T (legal_word w) × (v ≡ sum (cells 46 w)))
  pub fill_word : (w v p : ℕ) → (fill_answer w ≡ result (v, p))
      ↔ (T (legal_word w) × (v ≡ number (fill (cells 46 w))) × (p ≡ pulses (cells 46 w) (fill (cells 46 w))))
  pub word_capacity : (w c : ℕ) → (capacity_answer w ≡ result c) ↔ (T (legal_word w) × (c ≡ set_before_last (fill (cells 46 w))))
  -- The page operations
  pub write_first : (P D : List ℕ) (v : ℕ)
      → (write_first_answer P D ≡ result v) ↔ ((P ≡ blank_of (shape_of P).size) × (length D ≡ (shape_of P).first) × (v ≡ 0))
  pub read_first : (P out : List ℕ) (v : ℕ) → Bytes P
      → (read_first_answer P out ≡ result v) ↔ (FirstRound P × ((shape_of P).first ≤ length out) × (v ≡ 0))
  -- "Page capacity serves both states"
  pub page_capacity : (P : List ℕ) (c : ℕ) → Bytes P
      → (page_capacity_answer P ≡ result c) ↔ ((FirstRound P × (c ≡ data_cells_of (shape_of P) P)) ⊎ (Filled P × (c ≡ filled_cells_of (shape_of P) P)))
  -- "Filling a page returns the sum over its words" (specs/Pulses.antt says more of it)
  pub fill_page : (P : List ℕ) (n : ℕ) → Bytes P → (fill_page_answer P ≡ result n) ↔ (FirstRound P × (n ≡ pulses_of (shape_of P) P))
  -- "Everything else it refuses by the number in the document": each refusal "is returned just when its condition holds and no earlier one
  -- does".
  -- Decode, fill, or measure a word: "10 if a bit above cell 0 is set, 11 if two neighbours are set, 12 if the sum exceeds 4294967295".
  -- (`RefusalsInWords` of word/specs/Claims.antt has the first two conditions bit by bit and cell by cell.)
  pub decode_word_10_11_12 : (w : ℕ) → WordRefusals w (decode_answer w)
  pub fill_word_10_11_12 : (w : ℕ) → WordRefusals w (fill_answer w)
  pub word_capacity_10_11_12 : (w : ℕ) → WordRefusals w (capacity_answer w)
  -- A page's own shape: "Refusal 1 now means neither 256 nor 512 bytes", and for Inspect "there becomes neither 256 nor 512"; 44 words and a first
  -- record of 176 bytes, or "88 words in bytes 3 to 508, a first record of 352 bytes, and bytes 509 to 511 at 0". A page has the size of its shape
  -- just when it has one of the two
  pub sized : (P : List ℕ) → Sized P ↔ ((length P ≡ 256) ⊎ (length P ≡ 512))
  pub neither : (P : List ℕ) → (¬ Sized P) ↔ (¬ (length P ≡ 256) × ¬ (length P ≡ 512))
  pub shape_256 : (P : List ℕ) → length P ≡ 256 → ((shape_of P).words ≡ 44) × ((shape_of P).first ≡ 176) × (tail_of P ≡ [])
  pub shape_512 : (P : List ℕ) → length P ≡ 512
      → ((shape_of P).words ≡ 88) × ((shape_of P).first ≡ 352) × (T (zeros (tail_of P)) ↔ ((get_or P 509 0 ≡ 0) × (get_or P 510 0 ≡ 0) × (get_or P 511 0 ≡ 0)))
  -- Write first: "1 if the page is not 256 bytes, 2 if the data is not 176 bytes, 4 if any page byte is not 0"; "2 compares with the page's own
  -- record size"
  pub write_first_1 : (P D : List ℕ) (i : ℕ) → (write_first_answer P D ≡ refusal 1 i) ↔ (¬ Sized P × (i ≡ 0))
  pub write_first_2 : (P D : List ℕ) (i : ℕ) → (write_first_answer P D ≡ refusal 2 i) ↔ (Sized P × ¬ (length D ≡ (shape_of P).first) × (i ≡ 0))
  pub write_first_4 : (P D : List ℕ) (i : ℕ) → (write_first_answer P D ≡ refusal 4 i)
      ↔ (Sized P × (length D ≡ (shape_of P).first) × ¬ (P ≡ blank_of (shape_of P).size) × (i ≡ 0))
  -- 7 has "the lowest index (0 to 43) of a word": the row of a page's words has as many as its shape, and word i of it is that of cells 24 + 46 i
  -- and on
  pub words_at : (P : List ℕ) → (length (words P) ≡ (shape_of P).words) × ((i : ℕ) → i < (shape_of P).words → get_or (words P) i [] ≡ word_at P i)
  -- Read first: 1, 5, 6, 7, then "3 if the output is shorter than 176", or than the page's own record size
  pub read_first_1567 : (P out : List ℕ) → FirstRefusals P (read_first_answer P out)
  pub read_first_3 : (P out : List ℕ) (i : ℕ) → Bytes P
      → (read_first_answer P out ≡ refusal 3 i) ↔ (FirstRound P × (length out < (shape_of P).first) × (i ≡ 0))
  -- Page capacity: "1, 5, 6, 7 as in read first", and "on a state 03 page it refuses 6 and 7 as writing does, and 5 is for any other state"
  pub page_capacity_1 : (P : List ℕ) (i : ℕ) → (page_capacity_answer P ≡ refusal 1 i) ↔ (¬ Sized P × (i ≡ 0))
  pub page_capacity_5 : (P : List ℕ) (i : ℕ) → (page_capacity_answer P ≡ refusal 5 i) ↔ (Sized P × ¬ (state P ≡ state_first) × ¬ (state P ≡ state_filled) × (i ≡ 0))
  pub page_capacity_6 : (P : List ℕ) (i : ℕ) → (page_capacity_answer P ≡ refusal 6 i)
      ↔ (Sized P × ((state P ≡ state_first) ⊎ (state P ≡ state_filled)) × (¬ (byte1 P ≡ 0) ⊎ RestSetOf (shape_of P) P) × (i ≡ 0))
  pub page_capacity_7 : (P : List ℕ) (i : ℕ) → (page_capacity_answer P ≡ refusal 7 i)
      ↔ ((FirstHeader P × LowestBad legal (words P) i) ⊎ (FilledHeader P × LowestBad is_filled (words P) i))
  -- Fill page: "1, 5, 6, 7 as read first does"
  pub fill_page_1567 : (P : List ℕ) → FirstRefusals P (fill_page_answer P)
  -- and there is no other number: encode "never refuses"
  pub encode_word_by : (value : ℕ) → RefusesBy [] (encode_answer value)
  pub decode_word_by : (w : ℕ) → RefusesBy (10 ∷ 11 ∷ 12 ∷ []) (decode_answer w)
  pub fill_word_by : (w : ℕ) → RefusesBy (10 ∷ 11 ∷ 12 ∷ []) (fill_answer w)
  pub word_capacity_by : (w : ℕ) → RefusesBy (10 ∷ 11 ∷ 12 ∷ []) (capacity_answer w)
  pub write_first_by : (P D : List ℕ) → RefusesBy (1 ∷ 2 ∷ 4 ∷ []) (write_first_answer P D)
  pub read_first_by : (P out : List ℕ) → RefusesBy (1 ∷ 5 ∷ 6 ∷ 7 ∷ 3 ∷ []) (read_first_answer P out)
  pub page_capacity_by : (P : List ℕ) → RefusesBy (1 ∷ 5 ∷ 6 ∷ 7 ∷ []) (page_capacity_answer P)
  pub fill_page_by : (P : List ℕ) → RefusesBy (1 ∷ 5 ∷ 6 ∷ 7 ∷ []) (fill_page_answer P)
  -- "a refused call writes no byte of any buffer"
  pub write_first_refused : (P D : List ℕ) (n i : ℕ) → write_first_answer P D ≡ refusal n i → write_first_leaves P D ≡ P
  pub read_first_refused : (P out : List ℕ) (n i : ℕ) → read_first_answer P out ≡ refusal n i → read_first_leaves P out ≡ out
  pub fill_page_refused : (P : List ℕ) (n i : ℕ) → fill_page_answer P ≡ refusal n i → fill_page_leaves P ≡ P
  -- The two codes: write second and read second (Change 2 and document 01), write Inspect and read Inspect (Changes 7 and 9)
  pub write_second : WriterOf fill_code
  pub read_second : ReaderOf fill_code
  pub write_inspect : WriterOf inspect_code
  pub read_inspect : ReaderOf inspect_code
  -- the lengths with which 6 compares: "the limit of that code and page, which is 126 and 247, or 253 and 495"
  pub longest_lengths : (longest fill_code page256 ≡ 126) × (longest inspect_code page256 ≡ 247)
      × (longest fill_code page512 ≡ 253) × (longest inspect_code page512 ≡ 495)

-- Demand 2. First-round pages are the Zeckendorf sums of the 32-bit words, 46 cells a word, as the two published papers define them,
-- written and read back exactly. With an output long enough, a page is accepted as twice written exactly when filling some first-round
-- page and writing some record over it gives those 256 bytes; it "covers all bytes of a page's own size".

-- The first sentence, on pages of a shape.
pub record FirstPagesOf (s : Shape) : Type 0 where
  -- a page is first-round exactly when some record of its size written to a blank page gives it
  pub first_round : (P : List ℕ)
      → FirstRoundOf s P ↔ ((D : List ℕ) × Bytes D × (length D ≡ s.first) × (write_first_leaves (blank_of s.size) D ≡ P))
  -- "the Zeckendorf sums of the 32-bit words, 46 cells a word": the 46 cells of each word, and their sum. (`OneLegalWord` of
  -- word/specs/Claims.antt: each value has exactly one legal word. The weights are the papers' series by their definition, and those in
  -- the code's table by `TableIsSeries`.)
  pub word_of : (D : List ℕ) → length D ≡ s.first → (i : ℕ) → i < s.words
      → word_at (write_first_leaves (blank_of s.size) D) i ≡ zeckendorf 46 (value_at D i)
  pub sum_of : (D : List ℕ) → length D ≡ s.first → (i : ℕ) → i < s.words → sum (word_at (write_first_leaves (blank_of s.size) D) i) ≡ value_at D i
  -- "written and read back exactly": both accepted, and the output, if long enough, starts with the same bytes
  pub written : (D : List ℕ) → length D ≡ s.first → write_first_answer (blank_of s.size) D ≡ result 0
  pub read_back : (D out : List ℕ) → Bytes D → length D ≡ s.first → s.first ≤ length out
      → (read_first_answer (write_first_leaves (blank_of s.size) D) out ≡ result 0)
      × (read_first_leaves (write_first_leaves (blank_of s.size) D) out ≡ D ++ drop s.first out)

pub record Demand2 : Type 0 where
  pub first_pages : (s : Shape) → Known s → FirstPagesOf s
  -- "a page is accepted as twice written exactly when ...": "Demands 2 and 3 hold for each code with its own writing"
  pub with_fill : (s : Shape) → Known s → TwiceWrittenOf fill_code fill_page_leaves s
  pub inspect : (s : Shape) → Known s → TwiceWrittenOf inspect_code (λ P. P) s

-- Demand 3's figures, which are the fill code's alone, on pages of a shape: the least and the greatest capacity, the record that is sure to fit,
-- and the longest that fits some page.
pub record FillFiguresOf (s : Shape) (fewest most sureBytes longestBytes : ℕ) : Type 0 where
  -- "The capacity answered for a first-round page is the number of its data cells after the fill."
  pub capacity_counts : (P : List ℕ) → FirstRoundOf s P → page_capacity_answer P ≡ result (data_cells_of s P)
  -- ... and so is the capacity of its words, and the room with which `FitsOf fill_code` compares a record
  pub capacity_is : (P : List ℕ) → FirstRoundOf s P → capacity_all (page_words P s.words) ≡ data_cells_of s P
  pub room_is : (P R : List ℕ) → FirstRoundOf s P → room_ahead fill_code s P R ≡ data_cells_of s P
  -- ... and the capacity answered for the filled page that comes from it; of any filled page the room is the number of its data cells
  pub capacity_stays : (P : List ℕ) → FirstRoundOf s P → page_capacity_answer (fill_page_leaves P) ≡ result (data_cells_of s P)
  pub filled_room : (F R : List ℕ) → FilledOf s F → room_for fill_code s F R ≡ filled_cells_of s F
  -- "It is from 660 to 1,012 bits for every such page, some page has 660 and some page 1,012"
  pub least : (P : List ℕ) → FirstRoundOf s P → fewest ≤ data_cells_of s P
  pub greatest : (P : List ℕ) → FirstRoundOf s P → data_cells_of s P ≤ most
  pub least_met : (P : List ℕ) × FirstRoundOf s P × (page_capacity_answer P ≡ result fewest)
  pub greatest_met : (P : List ℕ) × FirstRoundOf s P × (page_capacity_answer P ≡ result most)
  -- "and so every record of up to 82 bytes fits each first-round page"; it is accepted over each filled page
  pub sure_fits : (P R : List ℕ) → FirstRoundOf s P → Bytes R → length R ≤ sureBytes → FitsOf fill_code s R P
  pub sure_filled : (F R : List ℕ) → FilledOf s F → length R ≤ sureBytes → write_second_answer F R ≡ result 0
  -- one byte more does not always fit; the longest record that fits some page, and none is longer
  pub sure_most : (P : List ℕ) × FirstRoundOf s P × ((R : List ℕ) → sureBytes < length R → ¬ FitsOf fill_code s R P)
  pub longest_met : (P R : List ℕ) × FirstRoundOf s P × FitsOf fill_code s R P × (length R ≡ longestBytes)
  pub longest_fits : (P R : List ℕ) → FirstRoundOf s P → FitsOf fill_code s R P → length R ≤ longestBytes

-- Demand 3, which "speaks of the pair, as demand 2 does", and holds "for each code with its own writing, demand 3's figures for the fill code
-- alone".
pub record Demand3 : Type 0 where
  -- filling P is accepted, returns its pulses, and leaves a filled page
  pub fill_accepted : (s : Shape) → Known s → (P : List ℕ) → FirstRoundOf s P
      → (fill_page_answer P ≡ result (pulses_of s P)) × FilledOf s (fill_page_leaves P)
  pub with_fill : (s : Shape) → Known s → WritingOf fill_code fill_page_leaves s
  pub inspect : (s : Shape) → Known s → WritingOf inspect_code (λ P. P) s
  -- the outcomes of the two codes differ, whatever the records and whatever lies below
  pub codes_differ : (s : Shape) → Known s → (P Q R S : List ℕ) → FirstRoundOf s P → FirstRoundOf s Q → FitsOf fill_code s R P → FitsOf inspect_code s S Q
      → ¬ (get_or (outcome_of fill_code s P R) 0 0 ≡ get_or (outcome_of inspect_code s Q S) 0 0)
  -- "The figures of demand 3 remain those of 256 bytes", and beside them, of 512, "1,320 to 2,024 bits, both ends are met, a record of up to 165
  -- bytes fits each such page, and its byte 1 goes to 253"
  pub figures : FillFiguresOf page256 660 1012 82 126
  pub figures_512 : FillFiguresOf page512 1320 2024 165 253
  -- the lengths with which `always_in` compares (specs/Inspect.antt has the figures of the Inspect code)
  pub sure_lengths : (sure fill_code page256 ≡ 82) × (sure inspect_code page256 ≡ 126)
      × (sure fill_code page512 ≡ 165) × (sure inspect_code page512 ≡ 253)
