-- What read second knows of a page once its words are scanned, and the answers that follow, over any sound shape of page. Assumes nothing.
use mathlib.Core.Bool.{Bool, true, false, not}
use mathlib.Core.List.{List}
use mathlib.Core.Logic.{inl, inr}
use mathlib.Core.Path.{◌≡◌, refl, sym, ap, ap₂, ◌∙◌}
use Prim.Native.Nat.{ℕ, ◌*◌, ◌≤◌, ◌<◌}
use native.Mathlib.Omega.{arith}
use lib.ListN.{length, take, drop, replicate}
use Rattle.cells.specs.Bytes.{Bytes, zeros}
use Rattle.cells.proofs.Tests.{holds}
use Rattle.cells.proofs.Fits.{not_not}
use Rattle.answer.specs.Answer.{Answer, result, refusal, answer}
use Rattle.answer.proofs.Chains.{still_refused}
use Rattle.window.specs.Words.{start, put_cells, page_words}
use Rattle.window.proofs.Words.{length_page_words, Words-page_words}
use Rattle.window.proofs.Buffers.{buffer_spare, buffer_record}
use Rattle.word.specs.Fill.{well_formed}
use Rattle.rows.specs.declared.shape.Shape.{Shape}
use Rattle.rows.specs.Page.{shape_for, shape_of, state_second, record_length, lowest, read_all, second_bits_of}
use Rattle.rows.specs.Code.{fill_code, longest, spare_of, record_of, AllJudgedOf, SecondRoundOf}
use Rattle.rows.proofs.Lowest.{lowest_le, passed_before}
use Rattle.rows.proofs.SecondWords.{read_most}
use Rattle.rows.proofs.Shapes.{Sound, sound_found, words_inside}
use Rattle.page.specs.Terms.{RecordHeaderOf}
use Rattle.page.specs.Answer.{header_checks, record_checks, read_checks}
use Rattle.page.proofs.Headed.{lowest_bad}
use Rattle.page.proofs.CodeAnswers.{record_passed, second_passed, read_taken, read_3, read_7, read_9}

-- 7 judges the words as they stand
pub same_judged : (n : ℕ) (ws : List (List Bool)) → length (fill_code.judged n ws) ≡ length ws
same_judged n ws = refl

-- the answer, whatever the output
abbrev Answers : Shape → List ℕ → Answer → Type 0
Answers s P a = (out : List ℕ) → answer (read_checks fill_code s P out) (record_length P) ≡ a

-- what the check of its header refuses, the reader refuses
pub read_refused : (s : Shape) (P : List ℕ) (n i : ℕ)
    → ◌≡◌ {A = Answer} (refusal n i) (answer (header_checks state_second (longest fill_code s) s P) 0) → Answers s P (refusal n i)
unfolding read_checks record_checks
read_refused s P n i e out = still_refused (header_checks state_second (longest fill_code s) s P) _ 0 (record_length P) n i (sym e)

-- the bounds of a found shape, and of a page that its header's check has passed
pub found_bounds : (s : Shape) (k : ℕ) → s ≡ shape_for k → (s.words ≤ 88) × (3 ≤ s.size)
found_bounds s k e = let f = sound_found s k e in (f.few, omega (arith, f.inside))

pub headed_inside : (s : Shape) (P : List ℕ) → s ≡ shape_of P
    → ◌≡◌ {A = Answer} (result 0) (answer (header_checks state_second (longest fill_code s) s P) 0) → start s.words ≤ 8 * length P
headed_inside s P e h = omega (arith, words_inside (sound_found s _ e), (record_passed fill_code s P h).0)

-- a word of lowest index that is not well formed
pub word_bad : (s : Shape) (P : List ℕ) (i : ℕ) → RecordHeaderOf fill_code s P → i ≡ lowest well_formed (page_words P s.words) → i < s.words
    → Answers s P (refusal 7 i)
word_bad s P i h e l out = (read_7 fill_code same_judged s P out i).1 (h, lowest_bad s.words well_formed P i e l)

-- all words are well formed, and their bits, n of them, are in the buffer; the record has k bytes
pub record Found (s : Shape) (P buffer : List ℕ) (n k : ℕ) : Type 0 where
  pub sound : Sound s
  pub of_bytes : Bytes P
  pub header : RecordHeaderOf fill_code s P
  pub formed : AllJudgedOf fill_code s P
  pub counted : n ≡ length (second_bits_of s P)
  pub held : buffer ≡ put_cells (replicate 256 0) 0 (second_bits_of s P)
  pub sized : k ≡ record_length P

-- from what the code found
pub all_found : (s : Shape) (P buffer : List ℕ) (i n k : ℕ) → s ≡ shape_of P → Bytes P
    → ◌≡◌ {A = Answer} (result 0) (answer (header_checks state_second (longest fill_code s) s P) 0)
    → i ≡ lowest well_formed (page_words P s.words) → n ≡ length (read_all (page_words P i))
    → buffer ≡ put_cells (replicate 256 0) 0 (read_all (page_words P i)) → s.words ≤ i → k ≡ record_length P
    → Found s P buffer n k
all_found s P buffer i n k e b h l c d m z =
    let ws = page_words P s.words in
    let all : i ≡ s.words = omega (arith, lowest_le well_formed ws, length_page_words P s.words) in
    record {
      sound = sound_found s _ e;
      of_bytes = b;
      header = record_passed fill_code s P h;
      formed = λ j k. passed_before well_formed ws j (omega arith);
      counted = c ∙ ap (λ (k : ℕ). length (read_all (page_words P k))) all;
      held = d ∙ ap (λ (k : ℕ). put_cells (replicate 256 0) 0 (read_all (page_words P k))) all;
      sized = z;
    }

module _ {s : Shape} {P buffer : List ℕ} {n k : ℕ} (f : Found s P buffer n k) where
  pub length_small : k ≤ 253
  length_small = omega (arith, f.sized, f.header.2, f.sound.few)

  pub second_few : n < 8 * k → Answers s P (refusal 9 0)
  second_few h out = (read_9 fill_code same_judged s P out 0).1 (f.header, f.formed, inl (omega (arith, f.counted, f.sized)), refl)

  -- b tells whether what is after the record's bytes in the buffer is 0
  module _ (b : Bool) (eb : b ≡ zeros (drop k buffer)) where
    spare : not b ≡ spare_of fill_code s P
    spare =
        let m = s.words in
        let most = read_most (page_words P m) (Words-page_words P m (omega (arith, words_inside f.sound, f.header.0))) in
        ap not
        (eb ∙ ap₂ (λ (j : ℕ) (l : List ℕ). zeros (drop j l)) f.sized f.held
        ∙ buffer_spare 256 (record_length P) (second_bits_of s P) (omega (arith, f.sound.few, most, length_page_words P m)))
        ∙ not_not (spare_of fill_code s P)

    pub second_spare : b ≡ false → Answers s P (refusal 9 0)
    second_spare t out =
        (read_9 fill_code same_judged s P out 0).1 (f.header, f.formed, inr (holds (spare_of fill_code s P) (sym spare ∙ ap not t)), refl)

    module _ (h : 8 * k ≤ n) (t : b ≡ true) (out : List ℕ) where
      second_round : SecondRoundOf fill_code s P
      second_round = second_passed fill_code s P f.of_bytes f.header f.formed (omega (arith, f.counted, f.sized)) (sym spare ∙ ap not t)

      pub second_output : length out < k → answer (read_checks fill_code s P out) (record_length P) ≡ refusal 3 0
      second_output o = (read_3 fill_code same_judged s P out 0 f.of_bytes).1 (second_round, omega (arith, f.sized), refl)

      pub second_done : k ≤ length out → answer (read_checks fill_code s P out) (record_length P) ≡ result k
      second_done o = (read_taken fill_code same_judged s P out k f.of_bytes).1 (second_round, omega (arith, f.sized), f.sized)

  -- the record's bytes in the buffer
  pub second_record : 8 * k ≤ n → take k buffer ≡ record_of fill_code s P
  unfolding record_of
  second_record h =
      ap₂ take f.sized f.held
      ∙ buffer_record 256 (record_length P) (second_bits_of s P) (omega (arith, f.counted, f.sized)) (omega (arith, f.header.2, f.sound.few))
