-- The page (document 01, the section of that name, and document 02, Changes 8 and 9). A page is its list of bytes. The definitions are over a shape
-- of page, or over what of it they need; document 01's page is the shape `page256`, the new chip's larger page `page512`.
-- Assumes nothing.
use Rattle.std.specs.Prelude.{Bool, cond, not, ◌&&◌, ◌||◌, List, [], ◌∷◌, ◌++◌, ◌≡◌, ℕ, zero, suc, ◌+◌, ◌*◌, ◌/◌, ◌%◌, ◌<◌, T, eqb, ltb, length, take, drop, get_or, replicate}
use Rattle.cells.specs.Cells.{number}
use Rattle.cells.specs.Bytes.{bits, high_first, Bytes, zeros}
use Rattle.window.specs.Words.{word_at, page_words, put_words}
use Rattle.word.specs.Word.{sum, legal, zeckendorf}
use Rattle.word.specs.Fill.{fill, fill_pulses, read, capacity, put, is_filled}
use Rattle.rows.specs.declared.shape.Shape.{Shape}

-- ---- the shape: "its length, words and record size". `Shape` is the code's own struct, of rows/src/shape.rt

-- a page of so many bytes and words: all else follows, a word takes four bytes of a first record
abbrev pub shape : ℕ → ℕ → Shape
shape size n = record { size = size; words = n; first = 4 * n }

-- document 01's page: a first record of 176 bytes
abbrev pub page256 : Shape
page256 = shape 256 44

-- "The new chip has larger pages": 88 words, "a first record of 352 bytes"
abbrev pub page512 : Shape
page512 = shape 512 88

-- the shape that a page of so many bytes is held to: the larger page's where it has that size, and document 01's for any other. A page of
-- neither size does not have the size of its shape: "Refusal 1 now means neither 256 nor 512 bytes"
unfoldable pub shape_for : ℕ → Shape
shape_for size = cond (eqb size 512) page512 page256

-- a page's own shape
abbrev pub shape_of : List ℕ → Shape
shape_of page = shape_for (length page)

-- ---- bytes and words

abbrev pub state : List ℕ → ℕ
state page = get_or page 0 0

abbrev pub byte1 : List ℕ → ℕ
byte1 page = get_or page 1 0

abbrev pub byte2 : List ℕ → ℕ
byte2 page = get_or page 2 0

-- "Byte 0 is the state: 00 blank, 01 first round, 07 second round"; Change 2 adds 03, filled, and Change 7 adds 09, second round by the
-- Inspect code
abbrev pub state_first : ℕ
state_first = 1

abbrev pub state_filled : ℕ
state_filled = 3

abbrev pub state_second : ℕ
state_second = 7

abbrev pub state_inspect : ℕ
state_inspect = 9

-- the second record's length in bytes: "two bytes, byte 1 low and byte 2 high"
abbrev pub record_length : List ℕ → ℕ
record_length page = byte1 page + 256 * byte2 page

-- the bytes after a page's n words, which follow its first three: none of 256 bytes, "bytes 509 to 511" of 512
abbrev pub tail : ℕ → List ℕ → List ℕ
tail n page = drop (3 + 46 * n / 8) page

-- refusal 6, in every state that has one, of a page of n words whose second record has at most so many bytes: "a length above the limit" or a
-- byte after the words that is not 0 ("one of bytes 509 to 511 not 0"). Without a second record the limit is 0: "6 if byte 1 or byte 2 is not 0"
unfoldable pub bad_header : ℕ → ℕ → List ℕ → Bool
bad_header most n page = ltb most (record_length page) || not (zeros (tail n page))

-- a page with its state and its record's length put, every other byte kept
abbrev pub with_header : ℕ → ℕ → List ℕ → List ℕ
with_header k n page = k ∷ n % 256 ∷ n / 256 ∷ drop 3 page

-- a blank page: so many bytes, and all of them 0
unfoldable pub is_blank : ℕ → List ℕ → Bool
is_blank size page = eqb (length page) size && zeros page

-- the lowest index of a word that does not pass a test; where all pass, the number of words
unfoldable pub lowest : (List Bool → Bool) → List (List Bool) → ℕ
lowest test [] = 0
lowest test (w ∷ ws) = cond (test w) (suc (lowest test ws)) 0

-- ---- the first record

-- the n words of a first record: each four bytes, highest first, make one word's value
unfoldable pub first_words : ℕ → List ℕ → List (List Bool)
first_words zero bs = []
first_words (suc n) bs = zeckendorf 46 (number (bits (take 4 bs))) ∷ first_words n (drop 4 bs)

-- the first record of words: each word's value as four bytes, highest first
unfoldable pub first_record : List (List Bool) → List ℕ
first_record [] = []
first_record (w ∷ ws) = high_first 4 (sum w) ++ first_record ws

-- a blank page after a first record was written: state 01 and the record's words
unfoldable pub first_page : Shape → List ℕ → List ℕ → List ℕ
first_page s page bs = put_words (state_first ∷ drop 1 page) (first_words s.words bs)

-- ---- the second record

unfoldable pub fill_all : List (List Bool) → List (List Bool)
fill_all [] = []
fill_all (w ∷ ws) = fill w ∷ fill_all ws

-- the sum over words of a number that each of them has
unfoldable pub sum_over : (List Bool → ℕ) → List (List Bool) → ℕ
sum_over count [] = 0
sum_over count (w ∷ ws) = count w + sum_over count ws

-- the pulses of filling a page are "the sum over its words" (document 02, Change 3)
abbrev pub pulses_all : List (List Bool) → ℕ
pulses_all ws = sum_over fill_pulses ws

-- a page's capacity is the sum over its words
abbrev pub capacity_all : List (List Bool) → ℕ
capacity_all ws = sum_over capacity ws

-- what the data cells of words hold, word 0 first; each word starts afresh
unfoldable pub read_all : List (List Bool) → List Bool
read_all [] = []
read_all (w ∷ ws) = read w ++ read_all ws

-- bits put into the data cells, word 0 first; where they are used up, 0
unfoldable pub put_all : List (List Bool) → List Bool → List (List Bool)
put_all [] l = []
put_all (w ∷ ws) l = put w l ∷ put_all ws (drop (length (read w)) l)

-- a first-round page after the fill: state 03, and all words filled
unfoldable pub filled_page : Shape → List ℕ → List ℕ
filled_page s page = put_words (state_filled ∷ drop 1 page) (fill_all (page_words page s.words))

-- what the data cells of a filled page or of a second-round page hold: those that reading back finds
abbrev pub second_bits_of : Shape → List ℕ → List Bool
second_bits_of s page = read_all (page_words page s.words)

-- ---- terms of document 01

-- a blank page has only bytes of 0
unfoldable pub blank_of : ℕ → List ℕ
blank_of size = replicate size 0

-- a page in state k that holds no second record, its bytes 1 and 2 and those after the words at 0, and whose words all pass a test
pub record OpenOf (k : ℕ) (test : List Bool → Bool) (s : Shape) (page : List ℕ) : Type 0 where
  pub sized : length page ≡ s.size
  pub of_bytes : Bytes page
  pub in_state : state page ≡ k
  pub byte1_zero : byte1 page ≡ 0
  pub byte2_zero : byte2 page ≡ 0
  pub tail_zero : T (zeros (tail s.words page))
  pub words_pass : (i : ℕ) → i < s.words → T (test (word_at page i))

-- the term "first-round page": a page in state 01 whose bytes 1 and 2 are 0 and whose words are all legal; "and bytes 509 to 511 at 0, without
-- which it is no first-round page"
abbrev pub FirstRoundOf : Shape → List ℕ → Type 0
FirstRoundOf s page = OpenOf state_first legal s page

-- the term "filled page" (document 02, Change 2): a page in state 03 whose bytes 1 and 2 are 0 and whose words are all well formed with no
-- data cell set
abbrev pub FilledOf : Shape → List ℕ → Type 0
FilledOf s page = OpenOf state_filled is_filled s page
