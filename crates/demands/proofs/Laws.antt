-- The laws of a code over rows of words, from which demands 2 and 3 of it follow on pages (Coded.antt, Written.antt): a further code is a proof
-- of these.
-- Assumes nothing.
use mathlib.Core.Bool.{Bool, false}
use mathlib.Core.List.{List}
use mathlib.Core.Path.{◌≡◌}
use Prim.Native.Nat.{ℕ, ◌*◌, ◌≤◌, ◌<◌}
use lib.Dec.{T}
use lib.ListN.{length, take}
use Rattle.cells.specs.Cells.{cells, kept}
use Rattle.window.specs.Words.{join, Words, page_words, put_words}
use Rattle.word.specs.Word.{legal}
use Rattle.rows.specs.declared.shape.Shape.{Shape}
use Rattle.rows.specs.Page.{state_first, with_header, FirstRoundOf}
use Rattle.rows.specs.Code.{Code, longest}
use Rattle.rows.proofs.EachWord.{Each}

pub record CodeLaws (c : Code) : Type 0 where
  -- the step ahead makes legal words ones that the writer takes
  pub prepared : (ws : List (List Bool)) → Words ws → Each legal ws
      → Words (c.prepare ws) × (length (c.prepare ws) ≡ length ws) × Each c.takes (c.prepare ws)
  pub same_words : (ws : List (List Bool)) (bs : List Bool) → Words ws → Words (c.put ws bs) × (length (c.put ws bs) ≡ length ws)
  pub same_judged : (n : ℕ) (ws : List (List Bool)) → length (c.judged n ws) ≡ length ws
  -- no cell is cleared
  pub prepare_keeps : (ws : List (List Bool)) → T (kept (join ws) (join (c.prepare ws)))
  pub put_keeps : (ws : List (List Bool)) (bs : List Bool) → Words ws → Each c.takes ws → T (kept (join ws) (join (c.put ws bs)))
  -- bits that the words take are read back
  pub read_back : (ws : List (List Bool)) (bs : List Bool) → Words ws → Each c.takes ws → length bs ≤ c.room ws bs
      → let vs = c.put ws bs in
      (take (length bs) (c.found (length bs) vs) ≡ bs) × Each c.passes (c.judged (length bs) vs) × (c.spare (length bs) vs ≡ false)
  -- each row that the reader takes comes from legal words
  pub origin : (n : ℕ) (vs : List (List Bool)) → Words vs
      → Each c.passes (c.judged n vs) → n ≤ length (c.found n vs) → c.spare n vs ≡ false
      → (ws : List (List Bool)) × Words ws × (length ws ≡ length vs) × Each legal ws
      × (c.put (c.prepare ws) (take n (c.found n vs)) ≡ vs) × (n ≤ c.room (c.prepare ws) (take n (c.found n vs)))
  -- ... and so does each row that the writer takes
  pub ready_origin : (vs : List (List Bool)) → Words vs → Each c.takes vs
      → (ws : List (List Bool)) × Words ws × (length ws ≡ length vs) × Each legal ws × (c.prepare ws ≡ vs)
  -- the fewest and the most bits
  pub always_in : (ws : List (List Bool)) (bs : List Bool) → Words ws → Each c.takes ws → length bs ≤ c.least * length ws → length bs ≤ c.room ws bs
  pub at_most : (ws : List (List Bool)) (bs : List Bool) → Words ws → c.room ws bs ≤ c.most * length ws
  -- the states are bytes, and going from one to the next clears no cell of the header
  pub states : (c.over < 256) × (c.into < 256)
  pub states_up : T (kept (cells 8 state_first) (cells 8 c.over)) × T (kept (cells 8 c.over) (cells 8 c.into))

-- two bytes can tell the code's longest record
abbrev pub Told : Code → Shape → Type 0
Told c σ = longest c σ < 65536

-- the step ahead of a code's writer leaves its state, no record, and the prepared words
abbrev pub AheadOf : Code → (List ℕ → List ℕ) → Shape → Type 0
AheadOf c ahead σ = (P : List ℕ) → FirstRoundOf σ P → ahead P ≡ put_words (with_header c.over 0 P) (c.prepare (page_words P σ.words))
