-- A filled page before write second and with its header put, and the answers that follow from its capacity. Assumes nothing.
use mathlib.Core.Bool.{Bool}
use mathlib.Core.List.{List}
use mathlib.Core.Path.{◌≡◌, refl, sym, ap, ◌∙◌}
use Prim.Native.Nat.{ℕ, ◌*◌, ◌/◌, ◌≤◌, ◌<◌}
use native.Mathlib.Omega.{arith}
use lib.ListN.{length}
use Rattle.cells.specs.Bytes.{bits, Bytes}
use Rattle.answer.specs.Answer.{Answer, result, refusal, answer}
use Rattle.window.specs.Words.{start, page_words, put_words}
use Rattle.word.specs.Fill.{is_filled}
use Rattle.rows.specs.declared.shape.Shape.{Shape}
use Rattle.rows.specs.Page.{shape_of, state_second, with_header, put_all, lowest, FilledOf}
use Rattle.rows.specs.Code.{fill_code, written_of}
use Rattle.rows.proofs.Headers.{header_length, header_words}
use Rattle.rows.proofs.EachWord.{row_page}
use Rattle.rows.proofs.SecondWords.{read_most}
use Rattle.rows.proofs.Shapes.{Sound, sound_found, words_inside}
use Rattle.page.specs.Answer.{write_checks}
use Rattle.page.proofs.Headed.{all_words}
use Rattle.page.proofs.CodeAnswers.{write_taken, write_8}
use Rattle.page.proofs.CodeAnswers as page
use Rattle.filled.specs.Answer.{filled_checks, room_filled}
use Rattle.filled.proofs.FilledAnswers.{check_filled_taken}

-- what the check of a filled page refuses, the writer refuses
pub write_refused : (s : Shape) (P R : List ℕ) (n i : ℕ) → ◌≡◌ {A = Answer} (refusal n i) (answer (filled_checks s P) (room_filled s P))
    → answer {A = ℕ} (write_checks fill_code s P R) 0 ≡ refusal n i
unfolding filled_checks
write_refused s P R n i e = page.write_refused fill_code s P R (room_filled s P) n i (sym e)

-- a filled page and its capacity
pub record Filled (s : Shape) (P : List ℕ) (room : ℕ) : Type 0 where
  pub sound : Sound s
  pub filled : FilledOf s P
  pub room_is : room ≡ room_filled s P

-- from what the check found
pub filled_found : (s : Shape) (P : List ℕ) (room : ℕ) → s ≡ shape_of P → Bytes P
    → ◌≡◌ {A = Answer} (result room) (answer (filled_checks s P) (room_filled s P)) → Filled s P room
filled_found s P room e b h =
    let p = (check_filled_taken s P (room_filled s P) room b).0 (sym h) in
    record { sound = sound_found s _ e; filled = p.0; room_is = p.1 }

module _ {s : Shape} {P : List ℕ} {room : ℕ} (f : Filled s P room) where
  pub headed : 3 ≤ length P
  headed = omega (arith, f.filled.sized, f.sound.inside)

  -- at most 23 bits a word
  pub room_small : room ≤ 2024
  room_small =
      let n = s.words in
      let r = row_page P n (omega (arith, f.filled.sized, words_inside f.sound)) in
      omega (arith, f.room_is, r.0, read_most (page_words P n) r.1, f.sound.few)

  module _ (R : List ℕ) where
    pub write_long : room / 8 < length R → answer {A = ℕ} (write_checks fill_code s P R) 0 ≡ refusal 8 room
    write_long h = (write_8 fill_code s P R room f.filled.of_bytes).1 (f.filled, f.room_is, omega arith)

    pub write_done : length R ≤ room / 8 → answer {A = ℕ} (write_checks fill_code s P R) 0 ≡ result 0
    write_done h = (write_taken fill_code s P R 0 f.filled.of_bytes).1 (f.filled, omega (arith, f.room_is), refl)

    -- with its header put, it is as long and has the same words
    module _ (page : List ℕ) (e : page ≡ with_header state_second (length R) P) where
      pub put_inside : start s.words ≤ 8 * length page
      put_inside = omega (arith, ap length e ∙ header_length P headed state_second (length R), f.filled.sized, words_inside f.sound)

      pub put_filled : lowest is_filled (page_words page s.words) ≡ s.words
      put_filled =
          ap (λ (q : List ℕ). lowest is_filled (page_words q s.words)) e
          ∙ ap (lowest is_filled) (header_words P state_second (length R) s.words) ∙ all_words s.words is_filled P f.filled.words_pass

      -- the words put over it
      pub second_put : put_words page (put_all (page_words page s.words) (bits R)) ≡ written_of fill_code s P R
      unfolding written_of
      second_put =
          ap (λ (p : List ℕ). put_words p (put_all (page_words p s.words) (bits R))) e
          ∙ ap (λ (ws : List (List Bool)). put_words (with_header state_second (length R) P) (put_all ws (bits R)))
          (header_words P state_second (length R) s.words)
