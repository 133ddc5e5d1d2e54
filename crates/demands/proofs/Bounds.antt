-- The capacity of a first-round page over any sound shape of page: it is the number of its data cells after the fill, is answered before and
-- after it, lies from 15 to 23 bits a word with both ends met, and is the room with which the fill code compares a record. They are demand 3's
-- parts on capacity.
-- Assumes nothing.
use mathlib.Core.Bool.{Bool}
use mathlib.Core.List.{List, [], ◌∷◌}
use mathlib.Core.Logic.{inl, inr}
use mathlib.Core.Path.{◌≡◌, refl, sym, ap, ap₂, ◌∙◌, subst}
use Prim.Native.Nat.{ℕ, ◌+◌, ◌-◌, ◌*◌, ◌/◌, ◌≤◌}
use native.Mathlib.Omega.{arith}
use lib.ListN.{length, replicate}
use Rattle.cells.specs.Bytes.{zeros}
use Rattle.cells.proofs.Tests.{holds}
use Rattle.answer.specs.Answer.{result, answer}
use Rattle.window.specs.Words.{page_words}
use Rattle.word.specs.Word.{sparse, legal}
use Rattle.word.specs.Fill.{capacity}
use Rattle.word.specs.Claims.{Legal}
use Rattle.word.proofs.Claims.{capacity_bounds}
use Rattle.rows.specs.declared.shape.Shape.{Shape}
use Rattle.rows.specs.Page.{state_first, blank_of, FirstRoundOf, FilledOf, fill_all, sum_over, capacity_all, read_all}
use Rattle.rows.specs.Code.{fill_code, room_ahead}
use Rattle.rows.proofs.Blank.{zeros_blank, Bytes-blank, length_blank}
use Rattle.rows.proofs.EachWord.{Each, each_sparse, each_word, each_replicate, row_replicate}
use Rattle.rows.proofs.Sums.{sum_over_replicate, capacity_bounds_all}
use Rattle.rows.proofs.SecondWords.{capacity_count}
use Rattle.rows.proofs.Shapes.{word_bytes, Sound, own_shape}
use Rattle.filled.specs.Answer.{capacity_checks, room_of, room_filled, page_capacity_answer, fill_page_leaves}
use Rattle.filled.proofs.FilledAnswers.{capacity_taken}
use Rattle.second.specs.Answer.{write_second_answer}
use Rattle.demands.specs.Demands.{data_cells_all, data_cells_of, filled_cells_of, FillFiguresOf}
use Rattle.demands.proofs.Laid.{laid, laid_row, laid_words, laid_open}
use Rattle.demands.proofs.Coded.{ahead_words}
use Rattle.demands.proofs.Written.{writer_of}
use Rattle.demands.proofs.Codes.{fill_laws, told_fill, ahead_fill, fill_twice, fill_writing}

-- of words without neighbours
capacity_data_cells : (ws : List (List Bool)) → Each sparse ws → capacity_all ws ≡ data_cells_all (fill_all ws)
unfolding sum_over data_cells_all fill_all
capacity_data_cells [] h = refl
capacity_data_cells (w ∷ ws) h = ap₂ (λ (a b : ℕ). a + b) (capacity_bounds.counts w h.0) (capacity_data_cells ws h.1)

module _ {σ : Shape} (f : Sound σ) where
  abbrev n : ℕ
  n = σ.words

  pub capacity_is : (P : List ℕ) → FirstRoundOf σ P → capacity_all (page_words P n) ≡ data_cells_of σ P
  capacity_is P p = capacity_data_cells (page_words P n) (each_sparse (page_words P n) (each_word legal P n p.words_pass))

  -- what page capacity answers, of a page of this size
  own_capacity : (P : List ℕ) → length P ≡ σ.size → page_capacity_answer P ≡ answer (capacity_checks σ P) (room_of σ P)
  own_capacity P l = ap (λ (s : Shape). answer (capacity_checks s P) (room_of s P)) (own_shape f P l)

  pub capacity_counts : (P : List ℕ) → FirstRoundOf σ P → page_capacity_answer P ≡ result (data_cells_of σ P)
  capacity_counts P p =
      own_capacity P p.sized ∙ (capacity_taken σ P (data_cells_of σ P) p.of_bytes).1 (inl (p, sym (capacity_is P p)))

  -- of a filled page: the fill of P has as many data cells, and each filled page is such a fill
  filled_words : (P : List ℕ) → FirstRoundOf σ P → page_words (fill_page_leaves P) n ≡ fill_all (page_words P n)
  filled_words P p = ahead_words f fill_laws (told_fill f) (ahead_fill f) P p

  room_of_fill : (P : List ℕ) → FirstRoundOf σ P → room_filled σ (fill_page_leaves P) ≡ data_cells_of σ P
  room_of_fill P p =
      ap (λ (ws : List (List Bool)). length (read_all ws)) (filled_words P p) ∙ sym (capacity_count (page_words P n)) ∙ capacity_is P p

  cells_of_fill : (P : List ℕ) → FirstRoundOf σ P → filled_cells_of σ (fill_page_leaves P) ≡ data_cells_of σ P
  cells_of_fill P p = ap data_cells_all (filled_words P p)

  pub room_is : (F : List ℕ) → FilledOf σ F → room_filled σ F ≡ filled_cells_of σ F
  room_is F q =
      let o = ((fill_twice f).ready F).0 q in
      subst (λ (G : List ℕ). room_filled σ G ≡ filled_cells_of σ G) o.2 (room_of_fill o.0 o.1 ∙ sym (cells_of_fill o.0 o.1))

  room_stays : (P : List ℕ) → FirstRoundOf σ P → page_capacity_answer (fill_page_leaves P) ≡ result (data_cells_of σ P)
  room_stays P p =
      let F = fill_page_leaves P in
      let q = ((fill_twice f).ready F).1 (P, p, refl) in
      own_capacity F q.sized ∙ (capacity_taken σ F (data_cells_of σ P) q.of_bytes).1 (inr (q, sym (room_of_fill P p)))

  -- 15 to 23 bits a word
  bounds : (P : List ℕ) → FirstRoundOf σ P → (15 * n ≤ data_cells_of σ P) × (data_cells_of σ P ≤ 23 * n)
  bounds P p =
      let r = laid_row f P p.sized in
      omega (arith, r.0, capacity_is P p, capacity_bounds_all (page_words P n) r.1 (each_word legal P n p.words_pass))

  least_filled : (F : List ℕ) → FilledOf σ F → 15 * n ≤ room_filled σ F
  least_filled F q =
      let o = ((fill_twice f).ready F).0 q in
      subst (λ (G : List ℕ). 15 * n ≤ room_filled σ G) o.2 (omega (arith, room_of_fill o.0 o.1, bounds o.0 o.1))

  -- the page of one word again and again
  pub all_alike : (w : List Bool) → Legal w → (P : List ℕ) × FirstRoundOf σ P × (page_words P n ≡ replicate n w)
  all_alike w h =
      let ws = replicate n w in
      let r = row_replicate n w h.0 in
      let k : ℕ = σ.size - (3 + word_bytes σ) in
      let t = blank_of k in (
        laid 1 0 0 ws t,
        laid_open f state_first legal ws t (omega arith) r (each_replicate legal n w h.1) (Bytes-blank k) (holds (zeros t) (zeros_blank k))
            (omega (arith, f.inside, length_blank k)),
        laid_words f 1 0 0 ws r t,
      )

  capacity_met : (w : List Bool) (c : ℕ) → Legal w → capacity w ≡ c → (P : List ℕ) × FirstRoundOf σ P × (data_cells_of σ P ≡ n * c)
  capacity_met w c h e =
      let p = all_alike w h in
      let k : capacity_all (page_words p.0 n) ≡ n * c = ap capacity_all p.2 ∙ sum_over_replicate capacity n w ∙ ap (λ (j : ℕ). n * j) e in
      (p.0, p.1, sym (capacity_is p.0 p.1) ∙ k)

  least_page : (P : List ℕ) × FirstRoundOf σ P × (data_cells_of σ P ≡ n * 15)
  least_page = let m = capacity_bounds.least_met in capacity_met m.0 15 m.1 m.2

  greatest_page : (P : List ℕ) × FirstRoundOf σ P × (data_cells_of σ P ≡ n * 23)
  greatest_page = let m = capacity_bounds.greatest_met in capacity_met m.0 23 m.1 m.2

  -- the room with which a record is compared
  pub room_over : (P R : List ℕ) → FirstRoundOf σ P → room_ahead fill_code σ P R ≡ data_cells_of σ P
  room_over P R p = sym (capacity_count (page_words P n)) ∙ capacity_is P p

  sure_filled : (F R : List ℕ) → FilledOf σ F → length R ≤ 15 * n / 8 → write_second_answer F R ≡ result 0
  sure_filled F R q h =
      let e = own_shape f F q.sized in
      ((writer_of fill_code).accepted F R 0 q.of_bytes).1 (rw e q, rw e (omega (arith, least_filled F q)), refl)

  -- ---- the figures

  pub figures_of : (fewest most sureBytes longestBytes : ℕ) → n * 15 ≡ fewest → n * 23 ≡ most → 15 * n / 8 ≡ sureBytes → 23 * n / 8 ≡ longestBytes
      → FillFiguresOf σ fewest most sureBytes longestBytes
  figures_of fewest most sureBytes longestBytes ef em es el = record {
    capacity_counts = capacity_counts;
    capacity_is = capacity_is;
    room_is = room_over;
    capacity_stays = room_stays;
    filled_room = λ F R q. room_is F q;
    least = λ P p. omega (arith, bounds P p, ef);
    greatest = λ P p. omega (arith, bounds P p, em);
    least_met = let p = least_page in (p.0, p.1, capacity_counts p.0 p.1 ∙ ap result (p.2 ∙ ef));
    greatest_met = let p = greatest_page in (p.0, p.1, capacity_counts p.0 p.1 ∙ ap result (p.2 ∙ em));
    sure_fits = λ P R p b h. (fill_writing f).always_in P R p b (omega (arith, es));
    sure_filled = λ F R q h. sure_filled F R q (omega (arith, es));
    sure_most = let p = least_page in (p.0, p.1, λ R h r. omega (arith, r.enough, room_over p.0 R p.1, p.2, es));
    longest_met =
        let p = greatest_page in
        let R = blank_of longestBytes in
        let l = length_blank longestBytes in (
          p.0,
          R,
          p.1,
          record { of_bytes = Bytes-blank longestBytes; enough = omega (arith, room_over p.0 R p.1, p.2, l, el) },
          l,
        );
    longest_fits = λ P R p r. omega (arith, (fill_writing f).never_in P R p r, el);
  }
