-- The gain sheet (document 02, Change 5): the gain of a page, the tally of pages, its line, and the turns by which a program counts.
-- Assumes nothing.
use Rattle.std.specs.Prelude.{true, Option, Some, None, List, [], ◌∷◌, ◌++◌, ◌≡◌, ℕ, zero, suc, ◌+◌, ◌*◌, ◌≤◌, ℤ, pos, ◌+ℤ◌, ◌-ℤ◌, length, take, drop}
use Rattle.text.specs.Text.{ascii, decimal, signed}
use Rattle.report.specs.Kinds.{kind_of}
use Rattle.report.specs.Listing.{pieces_of, next_turn, refilled}
use Rattle.report.specs.declared.Kind.{Kind}
use Rattle.report.specs.declared.Kind.TheVariants.{Blank, First, Filled, Second, Bad}
use Rattle.sheet.specs.declared.Tally.{Tally}

-- "A state 01 or 03 page counts 1,408 − 2,048": the bits of its record less those of a page
abbrev pub first_gain : ℤ
first_gain = pos 1408 -ℤ pos 2048

-- the gain of a page by its kind. "A second-round page counts −640 plus 8 times its record length". "Blank pages count 0, and so does any
-- page that the listing calls bad, whatever its state"
abbrev pub gain_of : Kind → ℤ
gain_of Blank = pos 0
gain_of (First n) = first_gain
gain_of (Filled n) = first_gain
gain_of (Second n) = first_gain +ℤ pos (8 * n)
gain_of (Bad n) = pos 0

-- ---- tallies

-- nothing is counted
abbrev pub no_pages : Tally
no_pages = record { pages = 0; blank = 0; first = 0; filled = 0; second = 0; bad = 0; gain = pos 0 }

-- a tally with these in place of its five counts
abbrev pub with_counts : Tally → ℕ → ℕ → ℕ → ℕ → ℕ → Tally
with_counts t blanks firsts filleds seconds bads = record {
  pages = t.pages;
  blank = blanks;
  first = firsts;
  filled = filleds;
  second = seconds;
  bad = bads;
  gain = t.gain;
}

-- one more in the count of a kind
abbrev pub counted : Tally → Kind → Tally
counted t Blank = with_counts t (t.blank + 1) t.first t.filled t.second t.bad
counted t (First n) = with_counts t t.blank (t.first + 1) t.filled t.second t.bad
counted t (Filled n) = with_counts t t.blank t.first (t.filled + 1) t.second t.bad
counted t (Second n) = with_counts t t.blank t.first t.filled (t.second + 1) t.bad
counted t (Bad n) = with_counts t t.blank t.first t.filled t.second (t.bad + 1)

-- one more page, and its gain
abbrev pub paged : Tally → ℤ → Tally
paged t g = record {
  pages = t.pages + 1;
  blank = t.blank;
  first = t.first;
  filled = t.filled;
  second = t.second;
  bad = t.bad;
  gain = t.gain +ℤ g;
}

-- the tally after one more page of a kind
abbrev pub tallied : Tally → Kind → Tally
tallied t k = paged (counted t k) (gain_of k)

-- the tally after further pages, one after another
unfoldable pub tally_from : Tally → List (List ℕ) → Tally
tally_from t [] = t
tally_from t (piece ∷ ps) = tally_from (tallied t (kind_of piece)) ps

-- the tally of pages
abbrev pub tally_of : List (List ℕ) → Tally
tally_of ps = tally_from no_pages ps

-- a tally of so many pages at most
pub record Tallies (most : ℕ) (t : Tally) : Type 0 where
  pub pieces : List (List ℕ)
  pub few : length pieces ≤ most
  pub all : t ≡ tally_of pieces

-- ---- the line

-- the names and the counts: "Each count is decimal"
unfoldable pub counts_of : Tally → List ℕ
counts_of t =
    ascii "pages " ++ decimal t.pages ++ (ascii " blank " ++ decimal t.blank) ++ (ascii " first " ++ decimal t.first)
    ++ (ascii " filled " ++ decimal t.filled) ++ (ascii " second " ++ decimal t.second) ++ (ascii " bad " ++ decimal t.bad)

-- the whole line, with the gain: "signed, with a minus below 0 and no plus"
unfoldable pub sheet_line : Tally → List ℕ
sheet_line t = counts_of t ++ ascii " gain " ++ signed t.gain ++ ascii "\n"

-- the whole output: the line of the tally of the pages that the listing lists
unfoldable pub sheet_of : List ℕ → List ℕ
sheet_of l = sheet_line (tally_of (pieces_of l))

-- ---- turns

-- the tally after the turn of a page, by the piece that came: as it was where none did
unfoldable pub turn_tally : Tally → List ℕ → Tally
turn_tally t [] = t
turn_tally t (b ∷ l) = tallied t (kind_of (b ∷ l))

-- the tally after so many turns at most of a listing, from a turn, a tally, a buffer and the input left
unfoldable pub turns_tally : ℕ → Option ℕ → Tally → List ℕ → List ℕ → Tally
turns_tally zero turn t page l = t
turns_tally (suc k) None t page l = t
turns_tally (suc k) (Some index) t page l =
    turns_tally k (next_turn index (length (take 256 l)) true) (turn_tally t (take (length (take 256 l)) (refilled page l))) (refilled page l) (drop 256 l)
