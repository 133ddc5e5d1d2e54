-- The figures of the Inspect code on a page (document 02, Changes 7 and 9), in the terms of specs/Demands.antt. `WalkCounts` of
-- walk/specs/Claims.antt has "Each word walked to its end takes 23 to 45 bits"; so 44 words take 1,012 to 1,980 bits, and 88 words 2,024 to 3,960.
-- proofs/Inspect.antt proves each clause.
-- Assumes nothing.
use Rattle.std.specs.Prelude.{List, ◌≡◌, ℕ, suc, ◌*◌, ◌≤◌, length}
use Rattle.cells.specs.Bytes.{Bytes}
use Rattle.answer.specs.Answer.{refusal}
use Rattle.rows.specs.declared.shape.Shape.{Shape}
use Rattle.rows.specs.Page.{page256, page512, FirstRoundOf}
use Rattle.rows.specs.Code.{FitsOf, room_for}
use Rattle.inspect.specs.Rows.{inspect_code}
use Rattle.inspect.specs.Answer.{write_inspect_answer}

-- On pages of a shape: the least and the greatest number of bits that the walks take of a record that is long enough, the record that is sure to
-- fit, and the longest that fits some page.
pub record InspectFiguresOf (s : Shape) (fewest most sureBytes longestBytes : ℕ) : Type 0 where
  -- "under this one a record fits when the words' walks take all its bits": not one more than it has
  pub all_taken : (P R : List ℕ) → FirstRoundOf s P → FitsOf inspect_code s R P → room_for inspect_code s P R ≡ 8 * length R
  -- "the number of record bits that all the words' walks take": of 256 bytes 1,012 to 1,980, both met
  pub least : (P R : List ℕ) → FirstRoundOf s P → fewest ≤ 8 * length R → fewest ≤ room_for inspect_code s P R
  pub greatest : (P R : List ℕ) → FirstRoundOf s P → room_for inspect_code s P R ≤ most
  -- "so 126 bytes always go in", on 512 bytes "253 bytes always go in", and one byte more does not always
  pub always : (P R : List ℕ) → FirstRoundOf s P → Bytes R → length R ≤ sureBytes → FitsOf inspect_code s R P
  pub not_always : (P R : List ℕ) × FirstRoundOf s P × Bytes R × (length R ≡ suc sureBytes) × (write_inspect_answer P R ≡ refusal 8 fewest)
  -- "Inspect on the large page can hold 495 bytes": some page takes so many, and none takes one more
  pub longest_met : (P R : List ℕ) × FirstRoundOf s P × FitsOf inspect_code s R P × (length R ≡ longestBytes)
  pub longest : (P R : List ℕ) → FirstRoundOf s P → FitsOf inspect_code s R P → length R ≤ longestBytes
  pub greatest_met : (P R : List ℕ) × FirstRoundOf s P × Bytes R × (length R ≡ suc longestBytes) × (write_inspect_answer P R ≡ refusal 8 most)

pub record InspectFigures : Type 0 where
  pub small : InspectFiguresOf page256 1012 1980 126 247
  pub large : InspectFiguresOf page512 2024 3960 253 495
