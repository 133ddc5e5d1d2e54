-- What holds of kinds and lines for every piece of input, and of the listing for every input. proofs/Claims.antt proves it.
-- demands/specs/Demands.antt says how to read a clause. "The listing, the gain sheet [..] stay with 256 bytes": the terms are those of that page.
-- Assumes nothing.
use Rattle.std.specs.Prelude.{Bool, true, false, List, [], ◌∷◌, ◌++◌, ◌↔◌, ◌⊎◌, ◌≡◌, ℕ, suc, ◌*◌, ◌≤◌, ◌<◌, T, length, take, replicate}
use Rattle.cells.specs.Bytes.{Bytes}
use Rattle.text.specs.Text.{ascii}
use Rattle.answer.specs.Answer.{refusal, among}
use Rattle.rows.specs.Page.{page256, state, state_first, state_filled, state_second, state_inspect, record_length, first_page, blank_of, FirstRoundOf, FilledOf}
use Rattle.rows.specs.Code.{Code, fill_code, SecondRoundOf}
use Rattle.page.specs.Terms.{SizedOf}
use Rattle.page.specs.Answer.{read_first_answer}
use Rattle.filled.specs.Answer.{page_capacity_answer}
use Rattle.second.specs.Answer.{read_second_answer}
use Rattle.inspect.specs.Rows.{inspect_code}
use Rattle.inspect.specs.Answer.{read_inspect_answer}
use Rattle.demands.specs.Demands.{data_cells_of, filled_cells_of}
use Rattle.report.specs.Kinds.{kind_of}
use Rattle.report.specs.Lines.{line_of}
use Rattle.report.specs.Listing.{listing_from, listing_of, first_turn, turns_from}
use Rattle.report.specs.declared.Kind.TheVariants.{Blank, First, Filled, Second, Bad}

abbrev pub blank : List ℕ
blank = blank_of 256

abbrev pub Sized : List ℕ → Type 0
Sized P = SizedOf page256 P

abbrev pub FirstRound : List ℕ → Type 0
FirstRound P = FirstRoundOf page256 P

abbrev pub FilledPage : List ℕ → Type 0
FilledPage P = FilledOf page256 P

abbrev pub SecondRound : Code → List ℕ → Type 0
SecondRound c P = SecondRoundOf c page256 P

abbrev pub data_cells : List ℕ → ℕ
data_cells P = data_cells_of page256 P

abbrev pub filled_cells : List ℕ → ℕ
filled_cells P = filled_cells_of page256 P

-- Each kind is given just where the documents say, and `bad` has no other number than the six that they name.
pub record KindsExact : Type 0 where
  pub blank_page : (P : List ℕ) → (kind_of P ≡ Blank) ↔ (P ≡ blank)
  pub of_first_page : (P : List ℕ) (c : ℕ) → Bytes P → (kind_of P ≡ First c) ↔ (FirstRound P × (c ≡ data_cells P))
  -- "the kind `filled` with its capacity"
  pub of_filled_page : (P : List ℕ) (c : ℕ) → Bytes P → (kind_of P ≡ Filled c) ↔ (FilledPage P × (c ≡ filled_cells P))
  -- by either code: "The listing and the gain sheet count state 09 as second"
  pub second_page : (P : List ℕ) (n : ℕ) → Bytes P
      → (kind_of P ≡ Second n) ↔ ((SecondRound fill_code P ⊎ SecondRound inspect_code P) × (n ≡ record_length P))
  -- "4 for state 00 with another byte set, 5 for an unknown state, 6, 7 or 9 as the readers give them, 1 for a last piece shorter than 256"
  pub bad_1 : (P : List ℕ) → (kind_of P ≡ Bad 1) ↔ ¬ Sized P
  pub bad_4 : (P : List ℕ) → (kind_of P ≡ Bad 4) ↔ (Sized P × (state P ≡ 0) × ¬ (P ≡ blank))
  pub bad_5 : (P : List ℕ) → (kind_of P ≡ Bad 5)
      ↔ (Sized P × ¬ (state P ≡ 0) × ¬ (state P ≡ state_first) × ¬ (state P ≡ state_filled) × ¬ (state P ≡ state_second) × ¬ (state P ≡ state_inspect))
  pub first_refused : (P : List ℕ) (n : ℕ) → Sized P → state P ≡ state_first → (kind_of P ≡ Bad n) ↔ ((i : ℕ) × (page_capacity_answer P ≡ refusal n i))
  -- "and `bad` there has page capacity's 6 or 7"
  pub filled_refused : (P : List ℕ) (n : ℕ) → Sized P → state P ≡ state_filled → (kind_of P ≡ Bad n) ↔ ((i : ℕ) × (page_capacity_answer P ≡ refusal n i))
  pub filled_6_or_7 : (P : List ℕ) (n : ℕ) → Sized P → state P ≡ state_filled → kind_of P ≡ Bad n → T (among n (6 ∷ 7 ∷ []))
  -- whatever output read first is given, if the record fits it, and read second and read Inspect, if every record does
  pub first_refused_as_read : (P out : List ℕ) (n : ℕ) → Sized P → state P ≡ state_first → 176 ≤ length out
      → (kind_of P ≡ Bad n) ↔ ((i : ℕ) × (read_first_answer P out ≡ refusal n i))
  pub second_refused : (P out : List ℕ) (n : ℕ) → Sized P → state P ≡ state_second → 126 ≤ length out
      → (kind_of P ≡ Bad n) ↔ ((i : ℕ) × (read_second_answer P out ≡ refusal n i))
  pub inspect_refused : (P out : List ℕ) (n : ℕ) → Sized P → state P ≡ state_inspect → 247 ≤ length out
      → (kind_of P ≡ Bad n) ↔ ((i : ℕ) × (read_inspect_answer P out ≡ refusal n i))
  -- and by no other number than "6, 7 or 9"
  pub second_6_7_or_9 : (P : List ℕ) (n : ℕ) → Sized P → (state P ≡ state_second) ⊎ (state P ≡ state_inspect)
      → kind_of P ≡ Bad n → T (among n (6 ∷ 7 ∷ 9 ∷ []))
  pub numbers_of_bad : (P : List ℕ) (n : ℕ) → kind_of P ≡ Bad n → T (among n (1 ∷ 4 ∷ 5 ∷ 6 ∷ 7 ∷ 9 ∷ []))

pub record LinesRight : Type 0 where
  -- "For a blank page followed by a page made from 176 zero bytes the whole output is"
  pub example : listing_of (blank ++ first_page page256 blank (replicate 176 0)) ≡ ascii "0 blank 0\n1 first 1012\n"
  -- and a line of each kind that it has not
  pub filled_line : line_of 12 (Filled 660) ≡ ascii "12 filled 660\n"
  pub second_line : line_of 4095 (Second 82) ≡ ascii "4095 second 82\n"
  pub bad_line : line_of 307 (Bad 7) ≡ ascii "307 bad 7\n"

pub record ListingRight : Type 0 where
  -- "For each page it prints one line"
  pub page : (k index : ℕ) (P l : List ℕ) → Sized P → listing_from (suc k) index (P ++ l) ≡ line_of index (kind_of P) ++ listing_from k (suc index) l
  -- "1 for a last piece shorter than 256"
  pub last_piece : (k index : ℕ) (l : List ℕ) → 0 < length l → length l < 256 → listing_from (suc k) index l ≡ line_of index (Bad 1)
  -- "Empty input prints nothing."
  pub empty : listing_of [] ≡ []
  -- it "stops after 4,096 pages": what follows them is not looked at
  pub most : (n : ℕ) (l : List ℕ) → 4096 * 256 ≤ n → listing_of (take n l) ≡ listing_of l
  -- the turns, of which the program takes as many as there are, write the whole output where every line can be written, whatever the buffer
  -- held
  pub turns : (k : ℕ) (buffer l : List ℕ) → 4096 ≤ k → turns_from (λ _. true) k first_turn buffer l ≡ listing_of l
  -- where page j's line is the first that cannot be written, they end with it
  pub unwritten : (written : ℕ → Bool) (j k : ℕ) (buffer l : List ℕ) → 4096 ≤ k → j < 4096
      → ((i : ℕ) → i < j → written i ≡ true) → written j ≡ false → turns_from written k first_turn buffer l ≡ listing_from (suc j) 0 l
