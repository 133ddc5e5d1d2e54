-- First-round pages are what write first makes of a blank page and some first record, which is read back from them, over any sound shape of page.
-- Demand 2's first part.
-- Assumes nothing.
use mathlib.Core.Bool.{Bool, true}
use mathlib.Core.List.{List, [], ◌++◌}
use mathlib.Core.Logic.{◌↔◌}
use mathlib.Core.Path.{◌≡◌, refl, sym, ap, ap₂, ◌∙◌, subst}
use Prim.Native.Nat.{ℕ, zero, suc, ◌+◌, ◌*◌, ◌≤◌, ◌<◌}
use native.Mathlib.Omega.{arith}
use lib.Dec.{T}
use lib.ListN.{length, drop, get_or, get_or-replicate}
use Rattle.cells.specs.Bytes.{Bytes, zeros}
use Rattle.cells.proofs.Bytes.{Bytes-drop}
use Rattle.cells.proofs.Tests.{holds}
use Rattle.answer.specs.Answer.{result, answer}
use Rattle.answer.proofs.Chains.{taken_leaves, output_leaves}
use Rattle.window.specs.Words.{word_at, page_words}
use Rattle.window.proofs.Words.{length_page_words, get_d_page_words}
use Rattle.word.specs.Word.{sum, legal, zeckendorf}
use Rattle.word.proofs.Claims.{one_legal_word}
use Rattle.rows.specs.declared.shape.Shape.{Shape}
use Rattle.rows.specs.Page.{shape_of, state_first, tail, blank_of, first_words, first_record, first_page, FirstRoundOf}
use Rattle.rows.proofs.Blank.{zeros_blank, blank_zeros, Bytes-blank, length_blank}
use Rattle.rows.proofs.EachWord.{each_word}
use Rattle.rows.proofs.FirstRecord.{value_le, row_first_words, legal_first_words, get_d_first_words, length_first_record, Bytes-first_record, first_record_first_words, first_words_first_record}
use Rattle.rows.proofs.Shapes.{word_bytes, Sound, own_shape}
use Rattle.page.specs.Answer.{write_first_checks, write_first_answer, write_first_leaves, read_first_checks, read_first_answer, read_first_leaves}
use Rattle.page.proofs.FirstAnswers.{write_first, read_first}
use Rattle.demands.specs.Demands.{value_at, FirstPagesOf}
use Rattle.demands.proofs.Laid.{laid, laid_row, laid_words, laid_open, length_tail, laid_first_page, laid_round}

-- ---- blank pages

drop_blank : (k n : ℕ) → zeros (drop k (blank_of n)) ≡ true
unfolding blank_of zeros
drop_blank zero n = zeros_blank n
drop_blank (suc k) zero = refl
drop_blank (suc k) (suc n) = drop_blank k n

module _ {σ : Shape} (f : Sound σ) where
  abbrev n : ℕ
  n = σ.words

  abbrev blank : List ℕ
  blank = blank_of σ.size

  abbrev t : List ℕ
  t = tail n blank

  zero_tail : T (zeros t)
  zero_tail = holds (zeros t) (drop_blank (3 + word_bytes σ) σ.size)

  -- a first record written to a blank page
  first_page_blank : (bs : List ℕ) → first_page σ blank bs ≡ laid 1 0 0 (first_words n bs) t
  unfolding blank_of
  first_page_blank bs =
      laid_first_page f blank (Bytes-blank σ.size) (length_blank σ.size) bs
      ∙ ap₂ (λ (a b : ℕ). laid 1 a b (first_words n bs) t)
      (get_or-replicate σ.size 1 0 0 (omega (arith, f.inside))) (get_or-replicate σ.size 2 0 0 (omega (arith, f.inside)))

  pub first_written : (bs : List ℕ) → FirstRoundOf σ (first_page σ blank bs)
  first_written bs =
      rw (first_page_blank bs)
      (laid_open f state_first legal (first_words n bs) t (omega arith) (row_first_words n bs) (legal_first_words n bs)
      (Bytes-drop (3 + word_bytes σ) blank (Bytes-blank σ.size)) zero_tail (length_tail f blank (length_blank σ.size)))

  pub words_written : (bs : List ℕ) → page_words (first_page σ blank bs) n ≡ first_words n bs
  words_written bs =
      ap (λ (P : List ℕ). page_words P n) (first_page_blank bs) ∙ laid_words f 1 0 0 (first_words n bs) (row_first_words n bs) t

  -- the record of a first-round page, written again
  first_again : (P : List ℕ) → FirstRoundOf σ P → first_page σ blank (first_record (page_words P n)) ≡ P
  first_again P p =
      let ws = page_words P n in
      let r = laid_row f P p.sized in
      let l : length t ≡ length (tail n P) = omega (arith, length_tail f blank (length_blank σ.size), length_tail f P p.sized) in
      let same : t ≡ tail n P = blank_zeros t zero_tail ∙ ap blank_of l ∙ sym (blank_zeros (tail n P) p.tail_zero) in
      first_page_blank (first_record ws)
      ∙ ap₂ (laid 1 0 0) (rw r.0 at (first_words_first_record ws r.1 (each_word legal P n p.words_pass))) same
      ∙ laid_round f state_first legal P p

  -- ---- demand 2

  own : shape_of blank ≡ σ
  own = own_shape f blank (length_blank σ.size)

  written : (D : List ℕ) → length D ≡ σ.first → write_first_answer blank D ≡ result 0
  written D l = ap (λ (s : Shape). answer {A = ℕ} (write_first_checks s blank D) 0) own ∙ (write_first σ blank D 0).1 (refl, l, refl)

  -- what write first leaves
  leaves : (D : List ℕ) → length D ≡ σ.first → write_first_leaves blank D ≡ first_page σ blank D
  leaves D l =
      taken_leaves (write_first_answer blank D) blank (first_page (shape_of blank) blank D) 0 (written D l)
      ∙ ap (λ (s : Shape). first_page s blank D) own

  round : (D : List ℕ) → length D ≡ σ.first → FirstRoundOf σ (write_first_leaves blank D)
  round D l = subst (FirstRoundOf σ) (sym (leaves D l)) (first_written D)

  words : (D : List ℕ) → length D ≡ σ.first → page_words (write_first_leaves blank D) n ≡ first_words n D
  words D l = ap (λ (P : List ℕ). page_words P n) (leaves D l) ∙ words_written D

  first_round : (P : List ℕ) → FirstRoundOf σ P ↔ ((D : List ℕ) × Bytes D × (length D ≡ σ.first) × (write_first_leaves blank D ≡ P))
  first_round P = (
    λ p.
        let ws = page_words P n in
        let D = first_record ws in
        let l : length D ≡ σ.first = omega (arith, length_first_record ws, length_page_words P n, f.fours) in
        (D, Bytes-first_record ws, l, leaves D l ∙ first_again P p),
    λ h. subst (FirstRoundOf σ) h.3 (round h.0 h.2),
  )

  word_of : (D : List ℕ) → length D ≡ σ.first → (i : ℕ) → i < n → word_at (write_first_leaves blank D) i ≡ zeckendorf 46 (value_at D i)
  word_of D l i h =
      sym (get_d_page_words (write_first_leaves blank D) n i h)
      ∙ ap (λ (ws : List (List Bool)). get_or ws i []) (words D l)
      ∙ get_d_first_words n D i h

  sum_of : (D : List ℕ) → length D ≡ σ.first → (i : ℕ) → i < n → sum (word_at (write_first_leaves blank D) i) ≡ value_at D i
  sum_of D l i h = ap sum (word_of D l i h) ∙ (one_legal_word.some (value_at D i) (value_le (drop (4 * i) D))).1

  read_back : (D out : List ℕ) → Bytes D → length D ≡ σ.first → σ.first ≤ length out
      → (read_first_answer (write_first_leaves blank D) out ≡ result 0)
      × (read_first_leaves (write_first_leaves blank D) out ≡ D ++ drop σ.first out)
  read_back D out b l h =
      let P = write_first_leaves blank D in
      let p = round D l in
      let e : shape_of P ≡ σ = own_shape f P p.sized in
      let a : read_first_answer P out ≡ result 0 =
      ap (λ (s : Shape). answer {A = ℕ} (read_first_checks s P out) 0) e ∙ (read_first σ P out 0 p.of_bytes).1 (p, h, refl) in
      let r : first_record (page_words P (shape_of P).words) ≡ D =
      ap (λ (s : Shape). first_record (page_words P s.words)) e ∙ ap first_record (words D l) ∙ first_record_first_words n D b (l ∙ f.fours) in (
        a,
        output_leaves (read_first_answer P out) out (first_record (page_words P (shape_of P).words)) D 0 a r ∙ ap (λ (k : ℕ). D ++ drop k out) l,
      )

  pub first_pages : FirstPagesOf σ
  first_pages = record { first_round = first_round; word_of = word_of; sum_of = sum_of; written = written; read_back = read_back }
