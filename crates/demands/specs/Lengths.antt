-- The record length of one byte that was before Change 9 of document 02, in the terms of specs/Demands.antt: "Every page written earlier has byte
-- 2 at 0 and reads with the same length." proofs/Lengths.antt proves each clause.
-- Assumes nothing.
use Rattle.std.specs.Prelude.{Bool, not, ◌||◌, List, [], ◌∷◌, ◌≡◌, ℕ, ◌*◌, eqb, ltb, length, drop}
use Rattle.cells.specs.Bytes.{bits, bytes, Bytes, zeros, at_start}
use Rattle.answer.specs.Answer.{Answer, result, refuse, answer, after}
use Rattle.window.specs.Words.{page_words, put_words}
use Rattle.rows.specs.declared.shape.Shape.{Shape}
use Rattle.rows.specs.Page.{page256, page512, state, byte1, byte2, record_length, tail}
use Rattle.rows.specs.Code.{Code, fill_code, longest, room_for}
use Rattle.page.specs.Terms.{SizedOf}
use Rattle.page.specs.Answer.{refuse_word, write_answer, write_leaves, read_answer, read_leaves}
use Rattle.inspect.specs.Rows.{inspect_code}

-- ---- what was answered and left, by a code on pages of a shape

-- refusal 6: "6 if byte 1 exceeds 126 or byte 2 is not 0", "6 covers bytes 509 to 511"
unfoldable pub bad_header_then : ℕ → ℕ → List ℕ → Bool
bad_header_then most n page = ltb most (byte1 page) || (not (eqb (byte2 page) 0) || not (zeros (tail n page)))

-- a page with its state and byte 1, "the second record's length in bytes", put
abbrev pub with_header_then : ℕ → ℕ → List ℕ → List ℕ
with_header_then k n page = k ∷ n ∷ drop 2 page

abbrev pub write_answer_then : Code → Shape → List ℕ → List ℕ → Answer
write_answer_then c s page bs =
    answer
    (refuse (not (eqb (length page) s.size)) 1 0
    ∷ refuse (not (eqb (state page) c.over)) 5 0
    ∷ refuse (bad_header_then 0 s.words page) 6 0
    ∷ refuse_word c.takes (page_words page s.words)
    ∷ refuse (ltb (room_for c s page bs) (8 * length bs)) 8 (room_for c s page bs)
    ∷ [])
    0

abbrev pub write_leaves_then : Code → Shape → List ℕ → List ℕ → List ℕ
write_leaves_then c s page bs =
    after (write_answer_then c s page bs) page (put_words (with_header_then c.into (length bs) page) (c.put (page_words page s.words) (bits bs)))

-- the record of n bytes that a page of these words holds
abbrev pub record_then : Code → ℕ → List (List Bool) → List ℕ
record_then c n ws = bytes n (c.found (8 * n) ws)

abbrev pub read_answer_then : Code → Shape → List ℕ → List ℕ → Answer
read_answer_then c s page out =
    let n = byte1 page in
    let ws = page_words page s.words in
    answer
    (refuse (not (eqb (length page) s.size)) 1 0
    ∷ refuse (not (eqb (state page) c.into)) 5 0
    ∷ refuse (bad_header_then (longest c s) s.words page) 6 0
    ∷ refuse_word c.passes (c.judged (8 * n) ws)
    ∷ refuse (ltb (length (c.found (8 * n) ws)) (8 * n) || c.spare (8 * n) ws) 9 0
    ∷ refuse (ltb (length out) n) 3 0
    ∷ [])
    n

abbrev pub read_leaves_then : Code → Shape → List ℕ → List ℕ → List ℕ
read_leaves_then c s page out = after (read_answer_then c s page out) out (at_start (record_then c (byte1 page) (page_words page s.words)) out)

-- ---- what is claimed

-- Of a code on pages of a shape:
pub record LengthsOf (c : Code) (s : Shape) : Type 0 where
  -- what the reader accepted has byte 2 at 0, and the same length
  pub byte2_zero : (P out : List ℕ) (n : ℕ) → SizedOf s P → Bytes P → read_answer_then c s P out ≡ result n → (byte2 P ≡ 0) × (record_length P ≡ n)
  -- every page is read as it was, with each refusal, and the output holds the same
  pub same_read : (P out : List ℕ) → SizedOf s P → Bytes P → read_answer c P out ≡ read_answer_then c s P out
  pub same_output : (P out : List ℕ) → SizedOf s P → Bytes P → read_leaves c P out ≡ read_leaves_then c s P out
  -- every page is written as it was, with each refusal, and what is written has the same bytes
  pub same_write : (P R : List ℕ) → SizedOf s P → Bytes P → write_answer c P R ≡ write_answer_then c s P R
  pub same_page : (P R : List ℕ) → SizedOf s P → Bytes P → write_leaves c P R ≡ write_leaves_then c s P R

-- The codes and shapes of page that there were.
pub record LengthsOfThen : Type 0 where
  pub with_fill : LengthsOf fill_code page256
  pub with_fill_512 : LengthsOf fill_code page512
  pub inspect : LengthsOf inspect_code page256
