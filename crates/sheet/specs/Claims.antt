-- What holds of the gain sheet for every input. proofs/Claims.antt proves it. demands/specs/Demands.antt says how to read a clause.
-- Assumes nothing.
use Rattle.std.specs.Prelude.{cond, List, [], ◌∷◌, ◌++◌, ◌≡◌, ℕ, ◌+◌, ◌*◌, ◌≤◌, ◌<◌, eqb, ℤ, pos, neg_ℤ, ◌+ℤ◌, length, take, replicate}
use Rattle.text.specs.Text.{ascii}
use Rattle.rows.specs.Page.{page256, first_page}
use Rattle.report.specs.Claims.{blank}
use Rattle.report.specs.Kinds.{kind_of}
use Rattle.report.specs.Listing.{pieces_of, first_turn}
use Rattle.report.specs.declared.Kind.{Kind}
use Rattle.report.specs.declared.Kind.TheVariants.{Blank, First, Filled, Second, Bad}
use Rattle.sheet.specs.Sheet.{gain_of, no_pages, tallied, tally_of, Tallies, sheet_line, sheet_of, turns_tally}

-- a kind's place among the counts of the line
abbrev pub place : Kind → ℕ
place Blank = 0
place (First n) = 1
place (Filled n) = 2
place (Second n) = 3
place (Bad n) = 4

-- a number by each page's kind, added up
unfoldable pub sum_by : (Kind → ℕ) → List (List ℕ) → ℕ
sum_by f [] = 0
sum_by f (piece ∷ ps) = f (kind_of piece) + sum_by f ps

-- how many pages have the kind at a place
abbrev pub how_many : ℕ → List (List ℕ) → ℕ
how_many p ps = sum_by (λ k. cond (eqb (place k) p) 1 0) ps

-- the sum of the gains of pages
unfoldable pub gains : List (List ℕ) → ℤ
gains [] = pos 0
gains (piece ∷ ps) = gain_of (kind_of piece) +ℤ gains ps

-- ps are any pages, whole or pieces of one; l is an input
pub record SheetRight : Type 0 where
  -- ---- the gain of a page

  -- "A state 01 or 03 page counts 1,408 − 2,048 = −640", whatever its capacity
  pub of_first_page : (c : ℕ) → gain_of (First c) ≡ neg_ℤ (pos 640)
  pub of_filled_page : (c : ℕ) → gain_of (Filled c) ≡ neg_ℤ (pos 640)
  -- "A second-round page counts −640 plus 8 times its record length, so a length of 80 gives 0."
  pub second_page : (n : ℕ) → gain_of (Second n) ≡ neg_ℤ (pos 640) +ℤ pos (8 * n)
  pub eighty : gain_of (Second 80) ≡ pos 0
  -- "Blank pages count 0, and so does any page that the listing calls bad"
  pub blank_page : gain_of Blank ≡ pos 0
  pub bad_page : (n : ℕ) → gain_of (Bad n) ≡ pos 0
  -- ---- the tally

  -- the pages are counted, and each where its kind stands
  pub pages : (ps : List (List ℕ)) → (tally_of ps).pages ≡ length ps
  pub kinds : (ps : List (List ℕ)) → let t = tally_of ps in
      (t.blank ≡ how_many 0 ps) × (t.first ≡ how_many 1 ps) × (t.filled ≡ how_many 2 ps) × (t.second ≡ how_many 3 ps) × (t.bad ≡ how_many 4 ps)
  -- the five counts add up to the pages
  pub counts : (ps : List (List ℕ)) → let t = tally_of ps in t.blank + t.first + t.filled + t.second + t.bad ≡ t.pages
  -- the gain is the sum of the pages' gains
  pub gain : (ps : List (List ℕ)) → (tally_of ps).gain ≡ gains ps
  -- ---- the input: n whole pages P, then another page or a piece of one

  -- "The program uses the listing's refusals": the kind is the listing's
  pub one_more : (n : ℕ) (P l : List ℕ) → length P ≡ n * 256 → n < 4096 → 0 < length l → length l ≤ 256
      → tally_of (pieces_of (P ++ l)) ≡ tallied (tally_of (pieces_of P)) (kind_of l)
  -- "a short last piece counts as one page and one bad page"
  pub short_piece : (n : ℕ) (P l : List ℕ) → length P ≡ n * 256 → n < 4096 → 0 < length l → length l < 256
      → tally_of (pieces_of (P ++ l)) ≡ tallied (tally_of (pieces_of P)) (Bad 1)
  -- "up to 4,096 pages": what follows them is not looked at
  pub few : (l : List ℕ) → Tallies 4096 (tally_of (pieces_of l))
  pub most : (n : ℕ) (l : List ℕ) → 4096 * 256 ≤ n → sheet_of (take n l) ≡ sheet_of l
  -- the turns, of which the program takes as many as there are, leave the tally of the whole input, whatever the buffer held
  pub turns : (k : ℕ) (buffer l : List ℕ) → 4096 ≤ k → turns_tally k first_turn no_pages buffer l ≡ tally_of (pieces_of l)
  -- ---- the line

  -- "For the two-page input of the listing example the whole output is"
  pub example : sheet_of (blank ++ first_page page256 blank (replicate 176 0))
      ≡ ascii "pages 2 blank 1 first 1 filled 0 second 0 bad 0 gain -640\n"
  -- with another number in each place: each count stands after its own name
  pub places : sheet_line (record { pages = 15; blank = 1; first = 2; filled = 3; second = 4; bad = 5; gain = pos 6 })
      ≡ ascii "pages 15 blank 1 first 2 filled 3 second 4 bad 5 gain 6\n"
  -- and for no input
  pub empty : sheet_of [] ≡ ascii "pages 0 blank 0 first 0 filled 0 second 0 bad 0 gain 0\n"
