-- What the reader of a transfer file answers and what it leaves in its output (document 02, Change 10).
-- Assumes nothing.
use Rattle.std.specs.Prelude.{Bool, cond, not, ◌||◌, List, [], ◌∷◌, ◌++◌, ◌≡◌, ℕ, zero, suc, ◌+◌, ◌*◌, ◌/◌, eqb, ltb, length, take, drop, get_or, Result}
use Rattle.cells.specs.Cells.{number}
use Rattle.cells.specs.Bytes.{bits, at_start}
use Rattle.answer.specs.declared.Refusal.{Refusal}
use Rattle.answer.specs.Answer.{AnswerOf, result, refusal, Check, refuse, answer, after, answer_by}
use Rattle.transfer.specs.File.{start, device_bytes, page_bytes}
use Rattle.receive.specs.Field.{Sort, device, page, end, passed_over, unknown, is_unknown, in_place, least, most, sort_in, length_in, contents_in, behind}
use Rattle.receive.specs.declared.fields.FieldKind.{FieldKind}
use Rattle.receive.specs.declared.fields.FieldKind.TheVariants.{Device, Page, End, Skipped}
use Rattle.receive.specs.declared.fields.Field.{Field}
use Rattle.receive.specs.declared.Contents.{Contents}

-- ---- one field

-- .. "then its length, then whether its contents are all there": the checks of a field whose length must be from a to z
unfoldable pub length_checks : ℕ → ℕ → List ℕ → List Check
length_checks a z f =
    refuse (ltb (length f) 3) 14 0 ∷ refuse (ltb (length_in f) a || ltb z (length_in f)) 15 0 ∷ refuse (ltb (length f) (3 + length_in f)) 14 0 ∷ []

-- "Within a field the tag is judged first, then its place in the sequence, where a 65th page has none, then its length, then whether its
-- contents are all there. It refuses 14 for .. a file that ends inside a field or before tag 7F, 15 for another tag, a wrong length, a field
-- out of sequence or a 65th page .., whichever is met first"
unfoldable pub field_checks : ℕ → List ℕ → List Check
field_checks s f =
    refuse (eqb (length f) 0) 14 0
    ∷ refuse (is_unknown (sort_in f)) 15 0
    ∷ refuse (not (in_place (sort_in f) s)) 15 0
    ∷ length_checks (least (sort_in f)) (most (sort_in f)) f

-- "each is read with the offset of the next": the field at offset i of a file
unfoldable pub kind_at : Sort → List ℕ → ℕ → FieldKind
kind_at device file i = Device (number (bits (take device_bytes (drop (i + 3) file))))
kind_at page file i = Page (i + 3)
kind_at end file i = End
kind_at passed_over file i = Skipped
kind_at unknown file i = Skipped

abbrev pub field_of : ℕ → FieldKind → Field
field_of n k = record { next = n; kind = k }

-- by its length and contents alone: where the next one starts
abbrev pub span_at : ℕ → ℕ → List ℕ → ℕ → AnswerOf ℕ
span_at a z file i = answer (length_checks a z (drop i file)) (i + 3 + length_in (drop i file))

-- after s fields that were not passed over
unfoldable pub field_at : List ℕ → ℕ → ℕ → AnswerOf Field
field_at file i s =
    answer (field_checks s (drop i file)) (field_of (i + 3 + length_in (drop i file)) (kind_at (sort_in (drop i file)) file i))

-- ---- the file

-- what is done with a result; a refusal stays
abbrev pub and_then : {A B : Type 0} → AnswerOf A → (A → AnswerOf B) → AnswerOf B
and_then (result x) g = g x
and_then (refusal n i) g = refusal n i

-- what a file tells: the device number and the bytes of the pages
abbrev pub Told : Type 0
Told = ℕ × List ℕ

-- "16 for bytes after the end field"
unfoldable pub after_end : List ℕ → List Check
after_end r = refuse (not (eqb (length r) 0)) 16 0 ∷ []

-- what follows a field of this sort with the contents c, r being the bytes after it, d the device number and P the pages so far; `go` reads
-- the fields after it
unfoldable pub next_read : (ℕ → ℕ → List ℕ → List ℕ → AnswerOf Told) → Sort → ℕ → ℕ → List ℕ → List ℕ → List ℕ → AnswerOf Told
next_read go device s d P c r = go (suc s) (number (bits c)) P r
next_read go page s d P c r = go (suc s) d (P ++ c) r
next_read go end s d P c r = answer (after_end r) (d, P)
next_read go passed_over s d P c r = go s d P r
next_read go unknown s d P c r = refusal 15 0

-- The fields f, one after another, after s fields that were not passed over. Each takes three bytes at least, so that a turn for each byte
-- is enough (the first argument).
unfoldable pub fields_read : ℕ → ℕ → ℕ → List ℕ → List ℕ → AnswerOf Told
fields_read zero s d P f = refusal 14 0
fields_read (suc n) s d P f = and_then (answer (field_checks s f) (contents_in f)) (λ (c : List ℕ). next_read (fields_read n) (sort_in f) s d P c (behind f))

-- the whole file: "14 for a wrong start"
unfoldable pub starts_wrongly : List ℕ → Bool
starts_wrongly file = ltb (length file) 2 || not (eqb (get_or file 0 0) (get_or start 0 0)) || not (eqb (get_or file 1 0) (get_or start 1 0))

-- what the fields of a file tell, after its start
unfoldable pub fields_told : List ℕ → AnswerOf Told
fields_told file = fields_read (length file) 0 0 [] (drop 2 file)

unfoldable pub file_told : List ℕ → AnswerOf Told
file_told file = cond (starts_wrongly file) (refusal 14 0) (fields_told file)

-- "The answer is the device number and the number of pages"
abbrev pub counted : Told → ℕ × ℕ
counted t = (t.0, length t.1 / page_bytes)

-- .. "and after these 3 if the output is too short"
unfoldable pub read_file_answer : List ℕ → List ℕ → AnswerOf (ℕ × ℕ)
read_file_answer file out = and_then (file_told file) (λ (t : Told). answer (refuse (ltb (length out) (length t.1)) 3 0 ∷ []) (counted t))

-- the bytes of the pages that a file tells; none where it is refused
abbrev pub pages_told : AnswerOf Told → List ℕ
pages_told (result t) = t.1
pages_told (refusal n i) = []

-- a file tells n pages
abbrev pub Counts : ℕ → AnswerOf Told → Type 0
Counts n (result t) = length t.1 ≡ page_bytes * n
Counts n (refusal m i) = ⊥

-- "output after the pages is unchanged" .. "writing nothing"
abbrev pub read_file_leaves : List ℕ → List ℕ → List ℕ
read_file_leaves file out = after (read_file_answer file out) out (at_start (pages_told (file_told file)) out)

-- the answer that a result of the code is
abbrev pub contents_answer : Result Contents Refusal → AnswerOf (ℕ × ℕ)
contents_answer r = answer_by (λ c. (c.device, c.pages)) r
