-- How many pulses the fill of a page costs (document 02, Change 3), in the terms of specs/Demands.antt. proofs/Pulses.antt proves each clause.
-- One pulse sets one cell.
-- Assumes nothing.
use Rattle.std.specs.Prelude.{List, ◌≡◌, ℕ, ◌+◌, ◌≤◌, drop}
use Rattle.cells.specs.Cells.{cells, set_cells, newly_set}
use Rattle.cells.specs.Bytes.{bits, Bytes}
use Rattle.answer.specs.Answer.{result}
use Rattle.window.specs.Words.{page_words}
use Rattle.rows.specs.declared.shape.Shape.{Shape}
use Rattle.rows.specs.Page.{page256, page512, state, pulses_all, FirstRoundOf}
use Rattle.page.specs.Terms.{SizedOf}
use Rattle.filled.specs.Answer.{fill_page_answer, fill_page_leaves}

-- Of every page P of a shape whose fill is accepted, n being what the fill answers:
pub record PulsesOf (s : Shape) (most : ℕ) : Type 0 where
  -- "Filling a page returns the sum over its words."
  pub sum : (P : List ℕ) (n : ℕ) → SizedOf s P → Bytes P → fill_page_answer P ≡ result n → n ≡ pulses_all (page_words P s.words)
  -- it is from 0 to 23 a word; some page has 0, and some page the most
  pub greatest : (P : List ℕ) (n : ℕ) → SizedOf s P → Bytes P → fill_page_answer P ≡ result n → n ≤ most
  pub least_met : (P : List ℕ) × FirstRoundOf s P × (fill_page_answer P ≡ result 0)
  pub greatest_met : (P : List ℕ) × FirstRoundOf s P × (fill_page_answer P ≡ result most)
  -- "The number is set cells after minus set cells before": those of all bytes after the first three
  pub cells_from_3 : (P : List ℕ) (n : ℕ) → SizedOf s P → Bytes P → fill_page_answer P ≡ result n
      → set_cells (bits (drop 3 P)) + n ≡ set_cells (bits (drop 3 (fill_page_leaves P)))
  -- "the one in the state byte is not in it": the state byte newly sets one cell, and with it the pulses are the cells that the fill sets in
  -- the whole page
  pub state_byte : (P : List ℕ) (n : ℕ) → SizedOf s P → Bytes P → fill_page_answer P ≡ result n
      → newly_set (cells 8 (state P)) (cells 8 (state (fill_page_leaves P))) ≡ 1
  pub whole_page : (P : List ℕ) (n : ℕ) → SizedOf s P → Bytes P → fill_page_answer P ≡ result n
      → newly_set (bits P) (bits (fill_page_leaves P)) ≡ n + 1

-- 44 words of at most 23, and 88
pub record PulsesOfAFill : Type 0 where
  pub small : PulsesOf page256 1012
  pub large : PulsesOf page512 2024
