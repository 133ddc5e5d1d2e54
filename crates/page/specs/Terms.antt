-- What the checks of a page say, in document 01's terms and over a shape of page. demands/specs/Demands.antt says how to read them.
-- Assumes nothing.
use Rattle.std.specs.Prelude.{Bool, false, List, [], ◌↔◌, ◌⊎◌, ◌≡◌, ℕ, ◌≤◌, ◌<◌, T, length, get_or}
use Rattle.cells.specs.Bytes.{zeros}
use Rattle.answer.specs.Answer.{Answer, refusal}
use Rattle.window.specs.Words.{page_words}
use Rattle.rows.specs.declared.shape.Shape.{Shape}
use Rattle.rows.specs.Page.{state, byte1, byte2, record_length, tail}
use Rattle.rows.specs.Code.{Code, longest}

abbrev pub SizedOf : Shape → List ℕ → Type 0
SizedOf s P = length P ≡ s.size

-- the length, the first three bytes and those after the words are as on a page in state k without a second record
abbrev pub HeaderOf : ℕ → Shape → List ℕ → Type 0
HeaderOf k s P = SizedOf s P × (state P ≡ k) × (byte1 P ≡ 0) × (byte2 P ≡ 0) × T (zeros (tail s.words P))

-- ... and as on a page with a second record by a code
abbrev pub RecordHeaderOf : Code → Shape → List ℕ → Type 0
RecordHeaderOf c s P = SizedOf s P × (state P ≡ c.into) × (record_length P ≤ longest c s) × T (zeros (tail s.words P))

-- a byte after the words is not 0
abbrev pub TailSetOf : Shape → List ℕ → Type 0
TailSetOf s P = zeros (tail s.words P) ≡ false

-- byte 2 or a byte after the words is not 0
abbrev pub RestSetOf : Shape → List ℕ → Type 0
RestSetOf s P = ¬ (byte2 P ≡ 0) ⊎ TailSetOf s P

-- word i of a row does not pass a test, and every word before it does
abbrev pub LowestBad : (List Bool → Bool) → List (List Bool) → ℕ → Type 0
LowestBad test ws i = (i < length ws) × (test (get_or ws i []) ≡ false) × ((j : ℕ) → j < i → T (test (get_or ws j [])))

-- "1 if the page is not 256 bytes", "5 if the state is not 01, 6 if byte 1 or byte 2 is not 0, 7 with the lowest index (0 to 43) of a word that
-- is not legal": the refusals that the answers of operations on one state share, with that state and what its words must pass; "6 covers bytes
-- 509 to 511". The index is 0 where the document names none
pub record RefusalsOf (k : ℕ) (test : List Bool → Bool) (s : Shape) (P : List ℕ) (a : Answer) : Type 0 where
  pub one : (i : ℕ) → (a ≡ refusal 1 i) ↔ (¬ SizedOf s P × (i ≡ 0))
  pub five : (i : ℕ) → (a ≡ refusal 5 i) ↔ (SizedOf s P × ¬ (state P ≡ k) × (i ≡ 0))
  pub six : (i : ℕ) → (a ≡ refusal 6 i) ↔ (SizedOf s P × (state P ≡ k) × (¬ (byte1 P ≡ 0) ⊎ RestSetOf s P) × (i ≡ 0))
  pub seven : (i : ℕ) → (a ≡ refusal 7 i) ↔ (HeaderOf k s P × LowestBad test (page_words P s.words) i)
