-- The pulses of a page's fill, over any sound shape of page: the claim of specs/Pulses.antt.
-- Assumes nothing.
use mathlib.Core.Bool.{Bool}
use mathlib.Core.List.{List, [], ◌∷◌, ◌++◌}
use mathlib.Core.Path.{◌≡◌, refl, sym, ap, ◌∙◌}
use Prim.Native.Nat.{ℕ, ◌+◌, ◌*◌, ◌≤◌}
use native.Mathlib.Omega.{arith}
use lib.Dec.{T}
use lib.ListN.{length, drop}
use Rattle.cells.specs.Cells.{first, rest, bit, cells, kept, set_cells, newly_set}
use Rattle.cells.specs.Bytes.{bits, Bytes}
use Rattle.cells.proofs.Bytes.{length_bits}
use Rattle.cells.proofs.Pulses.{set_cells_append, pulses_newly, pulses_exact}
use Rattle.answer.specs.Answer.{result, answer}
use Rattle.window.specs.Words.{join, page_words}
use Rattle.word.specs.Word.{legal}
use Rattle.word.specs.Fill.{fill, fill_pulses}
use Rattle.word.specs.Claims.{Legal}
use Rattle.word.proofs.Claims.{pulse_bounds}
use Rattle.rows.specs.declared.shape.Shape.{Shape}
use Rattle.rows.specs.Page.{state, state_first, tail, fill_all, sum_over, pulses_all, filled_page, FirstRoundOf, FilledOf}
use Rattle.rows.proofs.EachWord.{each_word, Row}
use Rattle.rows.proofs.Sums.{sum_over_replicate, sum_over_bounds}
use Rattle.rows.proofs.Shapes.{Sound, sound256, sound512, own_shape}
use Rattle.page.specs.Terms.{SizedOf}
use Rattle.page.specs.Answer.{first_checks}
use Rattle.page.proofs.FirstAnswers.{check_taken}
use Rattle.filled.specs.Answer.{pulses_of, fill_page_answer, fill_page_leaves}
use Rattle.demands.specs.Pulses.{PulsesOf, PulsesOfAFill}
use Rattle.demands.proofs.Laid.{laid, laid_row, laid_bits, laid_rest, laid_round}
use Rattle.demands.proofs.Bounds.{all_alike}
use Rattle.demands.proofs.Coded.{prep_row, ahead_is, ahead_ready, ahead_kept}
use Rattle.demands.proofs.Codes.{fill_laws, told_fill, ahead_filled, fill_taken, fill_leaves}

-- ---- words

cells_fill_all : (ws : List (List Bool)) → set_cells (join ws) + pulses_all ws ≡ set_cells (join (fill_all ws))
unfolding join fill_all sum_over
cells_fill_all [] = omega arith
cells_fill_all (w ∷ ws) =
    omega (
      arith,
      set_cells_append w (join ws),
      set_cells_append (fill w) (join (fill_all ws)),
      pulse_bounds.exact w,
      cells_fill_all ws,
    )

-- ---- pages

header_cells : (set_cells (bits (3 ∷ 0 ∷ 0 ∷ [])) ≡ 2) × (set_cells (bits (1 ∷ 0 ∷ 0 ∷ [])) ≡ 1)
unfolding set_cells bits cells bit
header_cells = (refl, refl)

module _ {σ : Shape} (f : Sound σ) (P : List ℕ) (p : FirstRoundOf σ P) where
  abbrev n : ℕ
  n = σ.words

  abbrev words : List (List Bool)
  words = page_words P n

  abbrev t : List ℕ
  t = tail n P

  row : Row n words
  row = laid_row f P p.sized

  filled_row : Row n (fill_all words)
  filled_row = prep_row f fill_laws (told_fill f) (ahead_filled f) P p

  round : laid 1 0 0 words t ≡ P
  round = laid_round f state_first legal P p

  filled_is : filled_page σ P ≡ laid 3 0 0 (fill_all words) t
  filled_is = ahead_is f fill_laws (told_fill f) (ahead_filled f) P p

  fill_kept : T (kept (bits P) (bits (filled_page σ P)))
  fill_kept = ahead_kept f fill_laws (told_fill f) (ahead_filled f) P p

  filled_filled : FilledOf σ (filled_page σ P)
  filled_filled = ahead_ready f fill_laws (told_fill f) (ahead_filled f) P p

  most_of : pulses_of σ P ≤ 23 * n
  most_of =
      let r = row in
      omega (
        arith,
        r.0,
        sum_over_bounds fill_pulses 0 23 (λ w l. (omega arith, pulse_bounds.greatest w l)) words r.1 (each_word legal P n p.words_pass),
      )

  -- before and after, without the header
  rest_before : bits (drop 3 P) ≡ join words ++ bits t
  rest_before = ap (λ (Q : List ℕ). bits (drop 3 Q)) (sym round) ∙ laid_rest f 1 0 0 words row t

  rest_after : bits (drop 3 (filled_page σ P)) ≡ join (fill_all words) ++ bits t
  rest_after = ap (λ (Q : List ℕ). bits (drop 3 Q)) filled_is ∙ laid_rest f 3 0 0 (fill_all words) filled_row t

  cells_of : set_cells (bits (drop 3 P)) + pulses_of σ P ≡ set_cells (bits (drop 3 (filled_page σ P)))
  cells_of =
      omega (
        arith,
        ap set_cells rest_before,
        ap set_cells rest_after,
        set_cells_append (join words) (bits t),
        set_cells_append (join (fill_all words)) (bits t),
        cells_fill_all words,
      )

  -- the whole page
  whole_before : bits P ≡ bits (1 ∷ 0 ∷ 0 ∷ []) ++ (join words ++ bits t)
  whole_before = ap bits (sym round) ∙ laid_bits f 1 0 0 words row t

  whole_after : bits (filled_page σ P) ≡ bits (3 ∷ 0 ∷ 0 ∷ []) ++ (join (fill_all words) ++ bits t)
  whole_after = ap bits filled_is ∙ laid_bits f 3 0 0 (fill_all words) filled_row t

  whole_of : newly_set (bits P) (bits (filled_page σ P)) ≡ pulses_of σ P + 1
  whole_of =
      let F = filled_page σ P in
      let s = filled_filled in
      let l : length (bits F) ≡ length (bits P) = omega (arith, length_bits F, length_bits P, s.sized, p.sized) in
      omega (
        arith,
        header_cells,
        ap set_cells whole_before,
        ap set_cells whole_after,
        set_cells_append (bits (1 ∷ 0 ∷ 0 ∷ [])) (join words ++ bits t),
        set_cells_append (bits (3 ∷ 0 ∷ 0 ∷ [])) (join (fill_all words) ++ bits t),
        set_cells_append (join words) (bits t),
        set_cells_append (join (fill_all words)) (bits t),
        cells_fill_all words,
        pulses_newly (bits P) (bits F) l fill_kept,
        pulses_exact (bits P) (bits F) l fill_kept,
      )

  state_of : newly_set (cells 8 (state P)) (cells 8 (state (filled_page σ P))) ≡ 1
  unfolding newly_set cells bit first rest
  state_of = rw (p.in_state, filled_filled.in_state) refl

-- ---- what is answered is the page's pulses, and the page is a first-round page

module _ {σ : Shape} (f : Sound σ) where
  module _ (P : List ℕ) (n : ℕ) (z : SizedOf σ P) (b : Bytes P) (e : fill_page_answer P ≡ result n) where
    own : answer (first_checks σ P) (pulses_of σ P) ≡ result n
    own = ap (λ (s : Shape). answer (first_checks s P) (pulses_of s P)) (sym (own_shape f P z)) ∙ e

    given : FirstRoundOf σ P × (n ≡ pulses_of σ P)
    given = (check_taken σ P _ n b).0 own

    abbrev first_round : FirstRoundOf σ P
    first_round = given.0

    most : n ≤ 23 * σ.words
    most = omega (arith, given.1, most_of f P first_round)

    cells_after : set_cells (bits (drop 3 P)) + n ≡ set_cells (bits (drop 3 (fill_page_leaves P)))
    cells_after = rw (given.1, fill_leaves f P first_round) (cells_of f P first_round)

    state_after : newly_set (cells 8 (state P)) (cells 8 (state (fill_page_leaves P))) ≡ 1
    state_after = rw (fill_leaves f P first_round) (state_of f P first_round)

    whole_after_fill : newly_set (bits P) (bits (fill_page_leaves P)) ≡ n + 1
    whole_after_fill = rw (given.1, fill_leaves f P first_round) (whole_of f P first_round)

  pulses_met : (w : List Bool) (c : ℕ) → Legal w → fill_pulses w ≡ c → (P : List ℕ) × FirstRoundOf σ P × (fill_page_answer P ≡ result (σ.words * c))
  pulses_met w c h e =
      let p = all_alike f w h in
      let n = σ.words in
      let k : pulses_all (page_words p.0 n) ≡ n * c = ap pulses_all p.2 ∙ sum_over_replicate fill_pulses n w ∙ ap (λ (j : ℕ). n * j) e in
      (p.0, p.1, fill_taken f p.0 p.1 ∙ ap result k)

  pulses_of_lem : (k : ℕ) → σ.words * 23 ≡ k → PulsesOf σ k
  pulses_of_lem k e = record {
    sum = λ P n z b a. (given P n z b a).1;
    greatest = λ P n z b a. omega (arith, most P n z b a, e);
    least_met = let m = pulse_bounds.least_met in let p = pulses_met m.0 0 m.1 m.2 in (p.0, p.1, p.2 ∙ ap result (omega arith));
    greatest_met = let m = pulse_bounds.greatest_met in let p = pulses_met m.0 23 m.1 m.2 in (p.0, p.1, p.2 ∙ ap result e);
    cells_from_3 = cells_after;
    state_byte = state_after;
    whole_page = whole_after_fill;
  }

pub pulses_of_a_fill : PulsesOfAFill
pulses_of_a_fill = record { small = pulses_of_lem sound256 _ refl; large = pulses_of_lem sound512 _ refl }
