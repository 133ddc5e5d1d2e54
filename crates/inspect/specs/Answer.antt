-- What write Inspect and read Inspect (document 02, Changes 7 and 9) answer and what they leave in their buffers: the Inspect code's writer and
-- reader.
-- Assumes nothing.
use Rattle.std.specs.Prelude.{List, ℕ}
use Rattle.answer.specs.Answer.{Answer}
use Rattle.page.specs.Answer.{write_answer, write_leaves, read_answer, read_leaves}
use Rattle.inspect.specs.Rows.{inspect_code}

-- "Its writer refuses 1, 5, 6, 7 as read first, then 8 when the last word's walk ends before the record does, with the number of record bits
-- that all the words' walks take."
abbrev pub write_inspect_answer : List ℕ → List ℕ → Answer
write_inspect_answer page bs = write_answer inspect_code page bs

-- "The state becomes 09 (hexadecimal)", bytes 1 and 2 hold the length, each word is walked, and "later cells keep their first-round contents"
abbrev pub write_inspect_leaves : List ℕ → List ℕ → List ℕ
write_inspect_leaves page bs = write_leaves inspect_code page bs

-- "Its reader answers as read second does and refuses 1, 5 for a state other than 09", 6 for "a length above the limit of that code and page", 247
-- or 495, "or on 512 bytes one of bytes 509 to 511 not 0", "7 with the lowest index of a word not legal so, 9 when the walk ends before that length
-- is reached, then 3."
abbrev pub read_inspect_answer : List ℕ → List ℕ → Answer
read_inspect_answer page out = read_answer inspect_code page out

abbrev pub read_inspect_leaves : List ℕ → List ℕ → List ℕ
read_inspect_leaves page out = read_leaves inspect_code page out
