-- Each operation's packed answer gives its parts back: every result and every index is below 2 ^ 56.
-- Assumes nothing.
use mathlib.Core.Bool.{Bool, true, false, cond}
use mathlib.Core.List.{List, [], ◌∷◌, ◌++◌}
use mathlib.Core.Path.{◌≡◌, ◌∙◌}
use Prim.Native.Nat.{ℕ, zero, suc, ◌*◌, ◌/◌, ◌^◌, ◌≤◌, ◌<◌}
use native.Mathlib.Nat.{min-le_left}
use native.Mathlib.Omega.{arith}
use lib.Dec.{eqb, ltb}
use lib.ListN.{length, take, drop, length-append, length-take}
use Rattle.cells.specs.Cells.{cells}
use Rattle.cells.specs.Bytes.{bits}
use Rattle.cells.proofs.Numbers.{length_cells}
use Rattle.answer.specs.Answer.{Check, refuse, answer, None}
use Rattle.answer.specs.Layout.{Faithful, FaithfulParts, Small}
use Rattle.answer.proofs.Apart.{taken_apart, parts_apart}
use Rattle.window.specs.Words.{pieces, page_words}
use Rattle.window.proofs.Words.{length_page_words}
use Rattle.word.specs.Fill.{fill, fill_pulses, read, capacity}
use Rattle.word.specs.Word.{legal}
use Rattle.word.specs.Answer.{legal_checks, if_legal, fill_answer}
use Rattle.word.proofs.Sums.{sum_fits, word_lt}
use Rattle.word.proofs.Filling.{capacity_le, length_fill}
use Rattle.word.proofs.FreeCells.{fill_lt}
use Rattle.word.proofs.Pulses.{fill_pulses_le}
use Rattle.rows.specs.declared.shape.Shape.{Shape}
use Rattle.rows.specs.Page.{shape_of, state, state_first, record_length, lowest, sum_over, pulses_all, capacity_all, read_all}
use Rattle.rows.specs.Code.{Code, fill_code, longest, room_for, judged_of}
use Rattle.rows.proofs.Headers.{header_tells}
use Rattle.rows.proofs.Lowest.{lowest_le}
use Rattle.rows.proofs.Shapes.{Sound, sound_of}
use Rattle.page.specs.Answer.{write_first_checks, state_checks, first_checks, read_first_checks, write_checks, record_checks, read_checks}
use Rattle.filled.specs.Answer.{capacity_checks, room_filled, room_of}
use Rattle.walk.specs.Walk.{taken}
use Rattle.walk.proofs.Walking.{taken_most}
use Rattle.inspect.specs.Rows.{taken_all, inspect_code}
use Rattle.inspect.proofs.Rows.{length_unwalked_all}
use Rattle.block.specs.Answer.{place_checks, collect_checks}
use Rattle.block.proofs.Placing.{index_few}
use Rattle.block.proofs.Collecting.{count_few}
use Rattle.transfer.specs.File.{file_of}
use Rattle.transfer.specs.Answer.{write_file_checks}
use Rattle.transfer.proofs.Places.{length_file}
use Rattle.transfer.proofs.FileAnswers.{not_carried}
use Rattle.receive.proofs.Packing.{read_parts}
use Rattle.wom.specs.Claims.{WordAnswersFaithful, PageAnswersFaithful}

-- ---- words

over_word : (w x : ℕ) → x < 2 ^ 56 → Faithful (if_legal w x)
unfolding legal_checks
over_word w x h = taken_apart (legal_checks w) x (omega arith, (omega arith, (omega arith, tt))) (λ n. h)

capacity_few : (w : List Bool) → capacity w ≤ length w
unfolding capacity read fill
capacity_few w = omega (arith, capacity_le false (fill w), length_fill false w)

capacity_small : (w : ℕ) → capacity (cells 46 w) < 2 ^ 56
capacity_small w = omega (arith, capacity_few (cells 46 w), length_cells 46 w)

pub fill_parts : (w : ℕ) → FaithfulParts 48 (fill_answer w)
unfolding legal_checks
fill_parts w =
    parts_apart 48 (legal_checks w) _ _ (omega arith) (omega arith, (omega arith, (omega arith, tt)))
    (λ n. (omega (arith, fill_lt w), omega (arith, fill_pulses_le (cells 46 w), length_cells 46 w)))

pub word_answers_faithful : WordAnswersFaithful
unfolding answer
word_answers_faithful = record {
  encode = λ value. taken_apart [] _ tt (λ n. omega (arith, word_lt value));
  decode = λ word. over_word word _ (omega (arith, sum_fits word));
  fill = fill_parts;
  capacity = λ word. over_word word _ (capacity_small word);
}

-- ---- pages

-- a sum over words of a number that is at most the word's cells
sums_small : (count : List Bool → ℕ) → ((w : List Bool) → count w ≤ length w) → (n : ℕ) (l : List Bool) → sum_over count (pieces n l) ≤ 46 * n
unfolding sum_over pieces
sums_small count h zero l = omega arith
sums_small count h (suc n) l =
    omega (arith, length-take 46 l, min-le_left 46 (length l), h (take 46 l), sums_small count h n (drop 46 l))

cells_small : (n : ℕ) (l : List Bool) → length (read_all (pieces n l)) ≤ 23 * n
unfolding read_all pieces read
cells_small zero l = omega arith
cells_small (suc n) l =
    let m : length (take 46 l) ≤ 46 = omega (arith, length-take 46 l, min-le_left 46 (length l)) in
    omega (arith, m, capacity_le false (take 46 l), length-append (read (take 46 l)) (read_all (pieces n (drop 46 l))), cells_small n (drop 46 l))

taken_all_pieces : (n : ℕ) (l bs : List Bool) → taken_all (pieces n l) bs ≤ 46 * n
unfolding taken_all pieces
taken_all_pieces zero l bs = omega arith
taken_all_pieces (suc n) l bs =
    let w = take 46 l in
    omega (arith, taken_most w bs, length-take 46 l, min-le_left 46 (length l), taken_all_pieces n (drop 46 l) (drop (taken w bs) bs))

-- over any sound shape of page
module _ {σ : Shape} (f : Sound σ) (P : List ℕ) where
  abbrev n : ℕ
  n = σ.words

  fill_small : pulses_all (page_words P n) < 2 ^ 56
  unfolding page_words
  fill_small = omega (arith, sums_small fill_pulses fill_pulses_le n (drop 24 (bits P)), f.few)

  page_small : capacity_all (page_words P n) < 2 ^ 56
  unfolding page_words
  page_small = omega (arith, sums_small capacity capacity_few n (drop 24 (bits P)), f.few)

  word_small : (test : List Bool → Bool) → lowest test (page_words P n) < 2 ^ 56
  word_small test = omega (arith, lowest_le test (page_words P n), length_page_words P n, f.few)

  -- the data cells of a filled page
  filled_small : room_filled σ P < 2 ^ 56
  unfolding page_words
  filled_small = omega (arith, cells_small n (drop 24 (bits P)), f.few)

  room_small : room_of σ P < 2 ^ 56
  unfolding room_of
  room_small = go (eqb (state P) 3)
    where
      go : (b : Bool) → cond b (room_filled σ P) (capacity_all (page_words P n)) < 2 ^ 56
      go true = filled_small
      go false = page_small

  -- the bits that the walks take
  taken_small : (R : List ℕ) → room_for inspect_code σ P R < 2 ^ 56
  unfolding page_words
  taken_small R = omega (arith, taken_all_pieces n (drop 24 (bits P)) (bits R), f.few)

  -- the checks of a page without a second record, and with one check more
  state_small : (k : ℕ) (test : List Bool → Bool) (cs : List Check) → Small cs → Small (state_checks k test σ P ++ cs)
  state_small k test cs h = (omega arith, (omega arith, (omega arith, (word_small test, h))))

  state_one : (k : ℕ) (test : List Bool → Bool) (b : Bool) (m i : ℕ) → i < 2 ^ 56 → Small (state_checks k test σ P ++ (refuse b m i ∷ []))
  state_one k test b m i h = state_small k test (refuse b m i ∷ []) (h, tt)

  -- the checks of a code's writer and of its reader, and the reader's result: the length is at most the longest record's where no check refuses
  writer_small : (c : Code) (R : List ℕ) → room_for c σ P R < 2 ^ 56 → Small (write_checks c σ P R)
  unfolding write_checks
  writer_small c R h = state_one c.over c.takes (ltb (room_for c σ P R) (8 * length R)) 8 (room_for c σ P R) h

  reader_small : (c : Code) (out : List ℕ) → length (judged_of c σ P) ≡ n → Small (read_checks c σ P out)
  unfolding read_checks record_checks
  reader_small c out e =
      (omega arith, (omega arith, (omega arith, (omega (arith, lowest_le c.passes (judged_of c σ P), f.few), (omega arith, (omega arith, tt))))))

  length_small : (c : Code) (out : List ℕ) → longest c σ < 2 ^ 56 → None (read_checks c σ P out) → record_length P < 2 ^ 56
  unfolding read_checks record_checks
  length_small c out m h = omega (arith, ((header_tells n P (longest c σ)).if_not h.1.1.0).0)

-- a file's length: there are at most 64 pages where no check refuses
file_small : (d : ℕ) (P out : List ℕ) → None (write_file_checks d P out) → length (file_of d P) < 2 ^ 56
unfolding write_file_checks
file_small d P out h =
    let k = (not_carried d P out).if_not h.0 in
    let n = length P / 256 in
    omega (arith, k.0, k.1, length_file d n P (omega (arith, k.0)))

pub page_answers_faithful : PageAnswersFaithful
unfolding write_first_checks first_checks read_first_checks capacity_checks write_file_checks place_checks collect_checks
page_answers_faithful = record {
  write_first = λ P D. taken_apart (write_first_checks (shape_of P) P D) 0 (omega arith, (omega arith, (omega arith, tt))) (λ n. omega arith);
  read_first = λ P out.
      taken_apart (read_first_checks (shape_of P) P out) 0
      (state_one (sound_of P) P state_first legal (ltb (length out) (shape_of P).first) 3 0 (omega arith)) (λ n. omega arith);
  page_capacity = λ P.
      let f = sound_of P in
      taken_apart (capacity_checks (shape_of P) P) (room_of (shape_of P) P) (omega arith, (omega arith, (omega arith, (word_small f P _, tt))))
      (λ n. room_small f P);
  fill_page = λ P.
      let f = sound_of P in
      taken_apart (first_checks (shape_of P) P) _ (state_small f P state_first legal [] tt) (λ n. fill_small f P);
  write_second = λ P R.
      let f = sound_of P in
      taken_apart (write_checks fill_code (shape_of P) P R) 0 (writer_small f P fill_code R (filled_small f P)) (λ n. omega arith);
  read_second = λ P out.
      let f = sound_of P in
      taken_apart (read_checks fill_code (shape_of P) P out) (record_length P)
      (reader_small f P fill_code out (length_page_words P (shape_of P).words))
      (length_small f P fill_code out (omega (arith, f.few)));
  write_inspect = λ P R.
      let f = sound_of P in
      taken_apart (write_checks inspect_code (shape_of P) P R) 0 (writer_small f P inspect_code R (taken_small f P R)) (λ n. omega arith);
  read_inspect = λ P out.
      let f = sound_of P in
      let n = (shape_of P).words in
      taken_apart (read_checks inspect_code (shape_of P) P out) (record_length P)
      (reader_small f P inspect_code out (length_unwalked_all (8 * record_length P) (page_words P n) ∙ length_page_words P n))
      (length_small f P inspect_code out (omega (arith, f.few)));
  write_file = λ d P out. taken_apart (write_file_checks d P out) _ (omega arith, (omega arith, tt)) (file_small d P out);
  read_file = read_parts;
  place_record = λ B R marks. taken_apart (place_checks 16 B marks R) _ (omega arith, (omega arith, tt)) (λ n. omega (arith, index_few B marks R));
  collect_block = λ S target keep. taken_apart (collect_checks 16 S target) _ (omega arith, (omega arith, tt)) (λ n. omega (arith, count_few keep 16));
}
