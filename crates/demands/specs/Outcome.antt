-- What filling and writing leave, byte by byte of the header and word by word, and that no call clears a cell of its page, in the terms of
-- specs/Demands.antt: no reader has to take `put_words` and `put_all` on trust for the order of the words, nor to put clauses together for
-- the insurer's first question. proofs/Outcome.antt proves each clause.
-- Assumes nothing.
use Rattle.std.specs.Prelude.{List, ◌≡◌, ℕ, ◌<◌, T, drop, get_or}
use Rattle.cells.specs.Cells.{bit}
use Rattle.cells.specs.Bytes.{bits, Bytes}
use Rattle.window.specs.Words.{word_at, page_words}
use Rattle.word.specs.Fill.{fill, put}
use Rattle.rows.specs.declared.shape.Shape.{Shape}
use Rattle.rows.specs.Page.{state, state_filled, byte1, byte2, capacity_all, FirstRoundOf}
use Rattle.rows.specs.Code.{fill_code, FitsOf, outcome_of}
use Rattle.page.specs.Answer.{write_first_leaves}
use Rattle.filled.specs.Answer.{fill_page_leaves}
use Rattle.second.specs.Answer.{write_second_leaves}
use Rattle.walk.specs.Walk.{walked}
use Rattle.inspect.specs.Rows.{taken_all, inspect_code}
use Rattle.inspect.specs.Answer.{write_inspect_leaves}
use Rattle.block.specs.Answer.{place_leaves, collect_leaves}
use Rattle.demands.specs.Demands.{Known}

-- Of every first-round page P of a shape s, and every record R that fits it; `WritingOf.header` and `.outcome_tail` of specs/Demands.antt have the
-- outcome's header and the bytes after its words:
pub record OutcomeByWords : Type 0 where
  -- "Filling turns a first-round page into state 03 (hexadecimal) with bytes 1 and 2 at 0": each word is that word filled
  pub filled_header : (s : Shape) → Known s → (P : List ℕ) → FirstRoundOf s P
      → (state (fill_page_leaves P) ≡ state_filled) × (byte1 (fill_page_leaves P) ≡ 0) × (byte2 (fill_page_leaves P) ≡ 0)
  pub filled_word : (s : Shape) → Known s → (P : List ℕ) → FirstRoundOf s P → (i : ℕ) → i < s.words
      → word_at (fill_page_leaves P) i ≡ fill (word_at P i)
  -- "Second bits go into the data cells, word 0 first, lower cells first": word i takes the record's bits after those that the words before
  -- it have room for
  pub outcome_word : (s : Shape) → Known s → (P R : List ℕ) → FirstRoundOf s P → FitsOf fill_code s R P → (i : ℕ) → i < s.words
      → word_at (outcome_of fill_code s P R) i ≡ put (fill (word_at P i)) (drop (capacity_all (page_words P i)) (bits R))
  -- "Each word is walked from cell 0": word i with the record's bits after those that the walks of the words before it take
  pub inspect_word : (s : Shape) → Known s → (P R : List ℕ) → FirstRoundOf s P → FitsOf inspect_code s R P → (i : ℕ) → i < s.words
      → word_at (outcome_of inspect_code s P R) i ≡ walked (word_at P i) (drop (taken_all (page_words P i) (bits R)) (bits R))

-- a bit that is set in a byte of P is set in that byte of Q
abbrev pub Keeps : List ℕ → List ℕ → Type 0
Keeps P Q = (i b : ℕ) → T (bit (get_or P i 0) b) → T (bit (get_or Q i 0) b)

-- "Can the second writing ask the part to clear a cell?" No call does, on any page, with any record, accepted or refused, by either code: what
-- is set in the page that is handed over is set in the page that the call leaves. Nor does the first writing.
pub record NoCellCleared : Type 0 where
  pub write_first : (P D : List ℕ) → Keeps P (write_first_leaves P D)
  pub fill_page : (P : List ℕ) → Bytes P → Keeps P (fill_page_leaves P)
  pub write_second : (P R : List ℕ) → Bytes P → Bytes R → Keeps P (write_second_leaves P R)
  pub write_inspect : (P R : List ℕ) → Bytes P → Bytes R → Keeps P (write_inspect_leaves P R)
  -- of a block, and of the block in which pages are collected
  pub place_record : (B R : List ℕ) (marks : ℕ) → Bytes B → Bytes R → Keeps B (place_leaves B marks R)
  pub collect_block : (S target : List ℕ) (keep : ℕ) → Keeps target (collect_leaves S keep target)
