-- What follows with the three demands of a record that is placed in a block (document 02, Change 11), in the terms of specs/Demands.antt: of which
-- page is chosen, when there is none, and that the record is read back. proofs/Blocks.antt proves each clause. block/specs/Claims.antt has the rest:
-- what is answered and left, and collecting; specs/Outcome.antt that no cell is cleared.
-- Assumes nothing.
use Rattle.std.specs.Prelude.{List, ◌++◌, ◌↔◌, ◌⊎◌, ◌≡◌, ℕ, ◌≤◌, ◌<◌, T, length, drop}
use Rattle.cells.specs.Bytes.{Bytes}
use Rattle.answer.specs.Answer.{result, refusal}
use Rattle.rows.specs.Page.{page256, FirstRoundOf}
use Rattle.rows.specs.Code.{fill_code, FitsOf, outcome_of}
use Rattle.filled.specs.Answer.{pulses_of, fill_page_answer, fill_page_leaves}
use Rattle.second.specs.Answer.{write_second_answer, read_second_answer, read_second_leaves}
use Rattle.block.specs.Block.{page_at, marked}
use Rattle.block.specs.Answer.{place_answer, place_leaves}
use Rattle.block.specs.Claims.{IsBlock}
use Rattle.demands.specs.Demands.{data_cells_of}

-- page j of B may take R: it is marked, "whose first record may be given up", a first-round page, and R fits it
pub record MayTake (B : List ℕ) (marks : ℕ) (R : List ℕ) (j : ℕ) : Type 0 where
  pub there : j < 16
  pub may_go : T (marked marks j)
  pub first_round : FirstRoundOf page256 (page_at B j)
  pub fits : FitsOf fill_code page256 R (page_at B j)

-- the capacity of page j: the number of its data cells after the fill
abbrev pub capacity_at : List ℕ → ℕ → ℕ
capacity_at B j = data_cells_of page256 (page_at B j)

-- Of every block B, all marks and every record R:
pub record PlacedRecords : Type 0 where
  -- the page that is answered may take the record, and has "the smallest capacity that still fits, the lowest index among equals"
  pub chosen : (B R : List ℕ) (marks i : ℕ) → Bytes B → Bytes R → place_answer B marks R ≡ result i → MayTake B marks R i
  pub least : (B R : List ℕ) (marks i j : ℕ) → Bytes B → Bytes R → place_answer B marks R ≡ result i → MayTake B marks R j
      → (capacity_at B i < capacity_at B j) ⊎ ((capacity_at B i ≡ capacity_at B j) × (i ≤ j))
  -- "18 exactly when no marked page that is not passed over fits"
  pub refused_18 : (B R : List ℕ) (marks k : ℕ) → Bytes B → Bytes R
      → (place_answer B marks R ≡ refusal 18 k) ↔ (IsBlock B × ((j : ℕ) → ¬ MayTake B marks R j) × (k ≡ 0))
  -- a record of up to 82 bytes is placed where some marked page is a first-round page; one of more than 126 bytes never is
  pub sure : (B R : List ℕ) (marks j : ℕ) → Bytes B → Bytes R → IsBlock B → length R ≤ 82 → j < 16 → T (marked marks j)
      → FirstRoundOf page256 (page_at B j) → (i : ℕ) × (place_answer B marks R ≡ result i)
  pub too_long : (B R : List ℕ) (marks : ℕ) → Bytes B → Bytes R → IsBlock B → 126 < length R → place_answer B marks R ≡ refusal 18 0
  -- "goes by fill code": fill page and write second accept, and leave the outcome that demand 3 speaks of
  pub both_accepted : (B R : List ℕ) (marks i : ℕ) → Bytes B → Bytes R → place_answer B marks R ≡ result i
      → (fill_page_answer (page_at B i) ≡ result (pulses_of page256 (page_at B i))) × (write_second_answer (fill_page_leaves (page_at B i)) R ≡ result 0)
  pub outcome : (B R : List ℕ) (marks i : ℕ) → Bytes B → Bytes R → place_answer B marks R ≡ result i
      → page_at (place_leaves B marks R) i ≡ outcome_of fill_code page256 (page_at B i) R
  -- read second of that page alone gives the length and the bytes of R, "into any output long enough and whatever that held"
  pub read_back : (B R out : List ℕ) (marks i : ℕ) → Bytes B → Bytes R → place_answer B marks R ≡ result i → length R ≤ length out
      → (read_second_answer (page_at (place_leaves B marks R) i) out ≡ result (length R))
      × (read_second_leaves (page_at (place_leaves B marks R) i) out ≡ R ++ drop (length R) out)
