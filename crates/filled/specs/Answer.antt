-- What filling a page and measuring one answer, and what they leave in the page (document 02, Changes 2 and 3). The checks are over a shape of
-- page; what an operation answers goes by the page's own.
-- Assumes nothing.
use Rattle.std.specs.Prelude.{cond, not, ◌&&◌, List, [], ◌∷◌, ℕ, eqb, length}
use Rattle.answer.specs.Answer.{Answer, Check, refuse, answer, after}
use Rattle.window.specs.Words.{page_words}
use Rattle.word.specs.Word.{legal}
use Rattle.word.specs.Fill.{is_filled}
use Rattle.rows.specs.declared.shape.Shape.{Shape}
use Rattle.rows.specs.Page.{shape_of, state, state_first, state_filled, bad_header, pulses_all, capacity_all, filled_page, second_bits_of}
use Rattle.page.specs.Answer.{refuse_word, state_checks, first_checks}

-- ---- fill page

-- the pulses of filling a page. The cell that the state newly sets is in none of its words: "the one in the state byte is not in it"
abbrev pub pulses_of : Shape → List ℕ → ℕ
pulses_of s page = pulses_all (page_words page s.words)

-- "Filling refuses 1, 5, 6, 7 as read first does"; it "returns the sum over its words"
abbrev pub fill_page_answer : List ℕ → Answer
fill_page_answer page = answer (first_checks (shape_of page) page) (pulses_of (shape_of page) page)

-- "Filling turns a first-round page into state 03 (hexadecimal) with bytes 1 and 2 at 0."
abbrev pub fill_page_leaves : List ℕ → List ℕ
fill_page_leaves page = after (fill_page_answer page) page (filled_page (shape_of page) page)

-- ---- a filled page

-- "writing refuses 1, 5 for a state other than 03, 6, 7 for a word that is not well formed or has a data cell set"
unfoldable pub filled_checks : Shape → List ℕ → List Check
filled_checks s page = state_checks state_filled is_filled s page

-- ---- page capacity

-- the bits that a first-round page offers, and those that a filled page does: the number of its data cells
abbrev pub room_first : Shape → List ℕ → ℕ
room_first s page = capacity_all (page_words page s.words)

abbrev pub room_filled : Shape → List ℕ → ℕ
room_filled s page = length (second_bits_of s page)

-- "Page capacity serves both states; on a state 03 page it refuses 6 and 7 as writing does, and 5 is for any other state."
unfoldable pub capacity_checks : Shape → List ℕ → List Check
capacity_checks s page =
    refuse (not (eqb (length page) s.size)) 1 0
    ∷ refuse (not (eqb (state page) state_first) && not (eqb (state page) state_filled)) 5 0
    ∷ refuse (bad_header 0 s.words page) 6 0
    ∷ refuse_word (cond (eqb (state page) state_filled) is_filled legal) (page_words page s.words)
    ∷ []

unfoldable pub room_of : Shape → List ℕ → ℕ
room_of s page = cond (eqb (state page) state_filled) (room_filled s page) (room_first s page)

abbrev pub page_capacity_answer : List ℕ → Answer
page_capacity_answer page = answer (capacity_checks (shape_of page) page) (room_of (shape_of page) page)
