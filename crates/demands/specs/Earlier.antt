-- Pages that were filled or twice written before Change 6 of document 02, by the fill that also set cell 45, in the terms of
-- specs/Demands.antt. proofs/Earlier.antt proves each clause.
-- Assumes nothing.
use Rattle.std.specs.Prelude.{Bool, List, [], ◌∷◌, ◌++◌, ◌≡◌, ℕ, ◌*◌, ◌≤◌, ◌<◌, length, drop}
use Rattle.cells.specs.Bytes.{bits}
use Rattle.answer.specs.Answer.{result, refusal}
use Rattle.window.specs.Words.{page_words, put_words}
use Rattle.word.specs.Earlier.{fill_earlier, capacity_earlier}
use Rattle.rows.specs.Page.{page256, state_filled, state_second, sum_over, put_all, FirstRoundOf, FilledOf}
use Rattle.rows.specs.Code.{fill_code, FitsOf}
use Rattle.filled.specs.Answer.{fill_page_leaves, page_capacity_answer}
use Rattle.second.specs.Answer.{write_second_answer, write_second_leaves, read_second_answer, read_second_leaves}
use Rattle.demands.specs.Demands.{data_cells_of}
use Rattle.demands.specs.Lengths.{with_header_then}

unfoldable pub fill_earlier_all : List (List Bool) → List (List Bool)
fill_earlier_all [] = []
fill_earlier_all (w ∷ ws) = fill_earlier w ∷ fill_earlier_all ws

-- the capacity that page capacity answered for a first-round page, and for the filled page that came from it
abbrev pub room_earlier : List ℕ → ℕ
room_earlier P = sum_over capacity_earlier (page_words P 44)

-- a first-round page after the earlier fill: state 03, and all words filled
unfoldable pub filled_earlier : List ℕ → List ℕ
filled_earlier P = put_words (state_filled ∷ drop 1 P) (fill_earlier_all (page_words P 44))

-- the outcome of a record over a first-round page with the earlier fill, whether the two were one operation or, since Change 2, two; its length
-- was byte 1
unfoldable pub outcome_earlier : List ℕ → List ℕ → List ℕ
outcome_earlier P R = put_words (with_header_then state_second (length R) P) (put_all (fill_earlier_all (page_words P 44)) (bits R))

-- Of every first-round page P of 256 bytes (there were no others), and every record R that fits it:
pub record EarlierPages : Type 0 where
  -- "Capacities do not move."
  pub capacity_same : (P : List ℕ) → FirstRoundOf page256 P → room_earlier P ≡ data_cells_of page256 P
  -- "which admits every page filled earlier": what the earlier fill left of P is a filled page
  pub filled : (P : List ℕ) → FirstRoundOf page256 P → FilledOf page256 (filled_earlier P)
  -- ... and it is also what filling some first-round page leaves now, so that "exactly when", in demand 2, holds of it
  pub filled_by_now : (P : List ℕ) → FirstRoundOf page256 P → (Q : List ℕ) × FirstRoundOf page256 Q × (fill_page_leaves Q ≡ filled_earlier P)
  -- page capacity answers for it what it answered then
  pub capacity_stays : (P : List ℕ) → FirstRoundOf page256 P → page_capacity_answer (filled_earlier P) ≡ result (room_earlier P)
  -- write second takes R over it and leaves the outcome that it left then; a record that had no room is refused by 8 with that capacity
  pub accepted : (P R : List ℕ) → FirstRoundOf page256 P → FitsOf fill_code page256 R P
      → (write_second_answer (filled_earlier P) R ≡ result 0) × (write_second_leaves (filled_earlier P) R ≡ outcome_earlier P R)
  pub remains_filled : (P R : List ℕ) → FirstRoundOf page256 P → room_earlier P < 8 * length R
      → (write_second_answer (filled_earlier P) R ≡ refusal 8 (room_earlier P)) × (write_second_leaves (filled_earlier P) R ≡ filled_earlier P)
  -- read second reads R back from that outcome alone
  pub read_back : (P R out : List ℕ) → FirstRoundOf page256 P → FitsOf fill_code page256 R P → length R ≤ length out
      → (read_second_answer (outcome_earlier P R) out ≡ result (length R)) × (read_second_leaves (outcome_earlier P R) out ≡ R ++ drop (length R) out)
  -- ... which is also what filling some first-round page and writing R over it leaves now
  pub twice_written_by_now : (P R : List ℕ) → FirstRoundOf page256 P → FitsOf fill_code page256 R P
      → (Q : List ℕ) × FirstRoundOf page256 Q × FitsOf fill_code page256 R Q × (write_second_leaves (fill_page_leaves Q) R ≡ outcome_earlier P R)
