-- What write second (document 02, Change 2) and read second (document 01, "What each operation returns and refuses") answer and what they
-- leave in their buffers: the fill code's writer and reader.
-- Assumes nothing.
use Rattle.std.specs.Prelude.{List, ℕ}
use Rattle.answer.specs.Answer.{Answer}
use Rattle.rows.specs.Code.{fill_code}
use Rattle.page.specs.Answer.{write_answer, write_leaves, read_answer, read_leaves}

-- "writing refuses 1, 5 for a state other than 03, 6, 7 for a word that is not well formed or has a data cell set, then 8": with the page's
-- capacity, "if 8 times the record's length exceeds it"
abbrev pub write_second_answer : List ℕ → List ℕ → Answer
write_second_answer page bs = write_answer fill_code page bs

-- "Writing puts a record over a state 03 page and gives state 07." Its length is "two bytes, byte 1 low and byte 2 high"
abbrev pub write_second_leaves : List ℕ → List ℕ → List ℕ
write_second_leaves page bs = write_leaves fill_code page bs

-- "Refuses 1, then 5 if the state is not 07", 6 for "a length above the limit of that code and page", 126 or 253, "or on 512 bytes one of bytes 509
-- to 511 not 0", "7 with the lowest index of a word not well formed, 9 if 8 times" the length "exceeds the number of data cells or a spare data cell
-- is 1, 3 if the output is shorter than the record"
abbrev pub read_second_answer : List ℕ → List ℕ → Answer
read_second_answer page out = read_answer fill_code page out

abbrev pub read_second_leaves : List ℕ → List ℕ → List ℕ
read_second_leaves page out = read_leaves fill_code page out
