-- The three demands of specs/Demands.antt.
-- Assumes nothing.
use mathlib.Core.List.{List, [], ◌∷◌}
use mathlib.Core.Logic.Iff
use mathlib.Core.Logic.{◌↔◌, ◌⊎◌, inl, inr, ⊎_elim}
use mathlib.Core.Path.{◌≡◌, refl, sym, ap, ap₂, ◌∙◌, subst}
use Prim.Native.Nat.{ℕ, ◌≤◌}
use native.Mathlib.Omega.{arith}
use lib.Dec.{T, eqb, eqb→eq}
use lib.ListN.{length, get_or, drop_of_length-le}
use lib.Seq.{drop-cons}
use mir.Facts.{and_yes}
use Rattle.cells.specs.Cells.{number, cells, pulses}
use Rattle.cells.specs.Bytes.{Bytes, zeros, at_start}
use Rattle.answer.specs.Answer.{result, answer, numbers}
use Rattle.answer.proofs.Chains.{no_other, refused_leaves}
use Rattle.window.specs.Words.{page_words}
use Rattle.window.proofs.Words.{length_page_words, get_d_page_words}
use Rattle.word.specs.Word.{sum, legal_word, zeckendorf}
use Rattle.word.specs.Fill.{fill, fill_pulses, capacity, set_before_last}
use Rattle.word.specs.Answer.{legal_checks, encode_answer, decode_answer, fill_answer, capacity_answer}
use Rattle.word.proofs.Answers.{legal_taken}
use Rattle.word.proofs.Claims.{one_legal_word, legal_accepted, capacity_bounds}
use Rattle.rows.specs.declared.shape.Shape.{Shape}
use Rattle.rows.specs.Page.{page256, page512, shape_of, tail, first_record, first_page, filled_page, FirstRoundOf}
use Rattle.rows.specs.Code.{fill_code, FitsOf, outcome_of}
use Rattle.rows.proofs.Shapes.{for_512, for_other, sizes, Sound, sound256, sound512, sound_of}
use Rattle.page.specs.Answer.{write_first_checks, write_first_answer, first_checks, read_first_checks, read_first_answer}
use Rattle.page.proofs.FirstAnswers.{write_first, write_first_1, write_first_2, write_first_4, read_first, read_first_1567, read_first_3, check_refusals, check_taken}
use Rattle.filled.specs.Answer.{fill_page_answer, fill_page_leaves, filled_checks, capacity_checks, page_capacity_answer}
use Rattle.filled.proofs.FilledAnswers.{capacity_taken, capacity_1, capacity_5, capacity_6, capacity_7}
use Rattle.inspect.specs.Rows.{inspect_code}
use Rattle.demands.specs.Demands.{data_cells_of, filled_cells_of, Sized, FirstRound, Filled, tail_of, Demand1, Demand2, Demand3}
use Rattle.demands.proofs.FirstPages.{first_pages}
use Rattle.demands.proofs.Written.{writer_of, reader_of}
use Rattle.demands.proofs.Codes.{fill_laws, inspect_laws, sound_known, fill_taken, fill_twice, inspect_twice, fill_writing, inspect_writing}
use Rattle.demands.proofs.Bounds.{capacity_is, room_is, figures_of}

-- ---- demand 1, words

decodes : (w v : ℕ) → (decode_answer w ≡ result v) ↔ (T (legal_word w) × (v ≡ sum (cells 46 w)))
decodes w v = legal_accepted.exactly w (sum (cells 46 w)) v

encodes : (value w : ℕ) → value ≤ 4294967295 → (encode_answer value ≡ result w) ↔ (T (legal_word w) × (value ≡ sum (cells 46 w)))
encodes value w h = (
  λ e. let f : w ≡ number (zeckendorf 46 value) = cc in (decodes w value).0 (rw f (one_legal_word.decode_encode value h)),
  λ l. (one_legal_word.encode_decode w value ((decodes w value).1 l)).1,
)

encodes_zeckendorf : (value w : ℕ) → value ≤ 4294967295
    → (encode_answer value ≡ result w) ↔ (T (legal_word w) × (w ≡ number (zeckendorf 46 value)))
encodes_zeckendorf value w h = (λ e. (((encodes value w h).0 e).0, cc), λ l. ap result (sym l.1))

fills : (w v p : ℕ) → (fill_answer w ≡ result (v, p))
    ↔ (T (legal_word w) × (v ≡ number (fill (cells 46 w))) × (p ≡ pulses (cells 46 w) (fill (cells 46 w))))
unfolding fill_pulses
fills w v p =
    Iff.trans (legal_accepted.exactly w (number (fill (cells 46 w)), fill_pulses (cells 46 w)) (v, p)) (
      λ h. (h.0, ap (λ (q : ℕ × ℕ). q.0) h.1, ap (λ (q : ℕ × ℕ). q.1) h.1),
      λ h. (h.0, ap₂ (λ (a b : ℕ). (a, b)) h.1 h.2),
    )

word_capacity : (w c : ℕ) → (capacity_answer w ≡ result c) ↔ (T (legal_word w) × (c ≡ set_before_last (fill (cells 46 w))))
word_capacity w c = Iff.trans (legal_accepted.exactly w _ c) (λ h. (h.0, h.1 ∙ counts h.0), λ h. (h.0, h.1 ∙ sym (counts h.0)))
  where
    counts : T (legal_word w) → capacity (cells 46 w) ≡ set_before_last (fill (cells 46 w))
    counts l = capacity_bounds.counts (cells 46 w) (legal_taken w l).apart

-- ---- demand 1, pages

page_capacity : (P : List ℕ) (c : ℕ) → Bytes P
    → (page_capacity_answer P ≡ result c) ↔ ((FirstRound P × (c ≡ data_cells_of (shape_of P) P)) ⊎ (Filled P × (c ≡ filled_cells_of (shape_of P) P)))
page_capacity P c b =
    let f = sound_of P in
    Iff.trans (capacity_taken (shape_of P) P c b) (
      λ h. ⊎_elim (λ g. inl (g.0, g.1 ∙ capacity_is f P g.0)) (λ g. inr (g.0, g.1 ∙ room_is f P g.0)) h,
      λ h. ⊎_elim (λ g. inl (g.0, g.1 ∙ sym (capacity_is f P g.0))) (λ g. inr (g.0, g.1 ∙ sym (room_is f P g.0))) h,
    )

-- ---- demand 1, a page's own shape

neither : (P : List ℕ) → (¬ Sized P) ↔ (¬ (length P ≡ 256) × ¬ (length P ≡ 512))
neither P = (
  λ n. (λ e. n ((sizes (length P)).1 (inl e)), λ e. n ((sizes (length P)).1 (inr e))),
  λ h z. ⊎_elim h.0 h.1 ((sizes (length P)).0 z),
)

shape_256 : (P : List ℕ) → length P ≡ 256 → ((shape_of P).words ≡ 44) × ((shape_of P).first ≡ 176) × (tail_of P ≡ [])
shape_256 P l =
    let e : shape_of P ≡ page256 = for_other (length P) (omega arith) in (
      ap (λ (s : Shape). s.words) e,
      ap (λ (s : Shape). s.first) e,
      ap (λ (s : Shape). tail s.words P) e ∙ drop_of_length-le P {i = 256} (omega arith),
    )

-- the last three bytes
last_three : (P : List ℕ) → length P ≡ 512 → T (zeros (tail 88 P)) ↔ ((get_or P 509 0 ≡ 0) × (get_or P 510 0 ≡ 0) × (get_or P 511 0 ≡ 0))
unfolding zeros
last_three P l =
    let e : tail 88 P ≡ get_or P 509 0 ∷ get_or P 510 0 ∷ get_or P 511 0 ∷ [] =
    drop-cons P 509 0 (omega arith)
    ∙ ap (λ (x : List ℕ). get_or P 509 0 ∷ x)
    (drop-cons P 510 0 (omega arith)
    ∙ ap (λ (x : List ℕ). get_or P 510 0 ∷ x) (drop-cons P 511 0 (omega arith) ∙ ap (λ (x : List ℕ). get_or P 511 0 ∷ x) (drop_of_length-le P {i = 512} (omega arith)))) in (
      λ t.
          let a = and_yes (eqb (get_or P 509 0) 0) _ (subst (λ (x : List ℕ). T (zeros x)) e t) in
          let b = and_yes (eqb (get_or P 510 0) 0) _ a.1 in
          let c = and_yes (eqb (get_or P 511 0) 0) _ b.1 in
          (eqb→eq (get_or P 509 0) 0 a.0, eqb→eq (get_or P 510 0) 0 b.0, eqb→eq (get_or P 511 0) 0 c.0),
      λ h. rw e (rw (h.0, h.1, h.2) tt),
    )

shape_512 : (P : List ℕ) → length P ≡ 512
    → ((shape_of P).words ≡ 88) × ((shape_of P).first ≡ 352) × (T (zeros (tail_of P)) ↔ ((get_or P 509 0 ≡ 0) × (get_or P 510 0 ≡ 0) × (get_or P 511 0 ≡ 0)))
shape_512 P l =
    let e : shape_of P ≡ page512 = for_512 (length P) l in (
      ap (λ (s : Shape). s.words) e,
      ap (λ (s : Shape). s.first) e,
      rw e (last_three P l),
    )

-- ---- demand 1

pub demand1 : Demand1
unfolding legal_checks write_first_checks first_checks read_first_checks capacity_checks filled_checks answer numbers
demand1 = record {
  encode_word = encodes;
  encode_zeckendorf = encodes_zeckendorf;
  decode_word = decodes;
  fill_word = fills;
  word_capacity = word_capacity;
  write_first = λ P. write_first (shape_of P) P;
  read_first = λ P. read_first (shape_of P) P;
  page_capacity = page_capacity;
  fill_page = λ P n. check_taken (shape_of P) P _ n;
  decode_word_10_11_12 = λ w. legal_accepted.refused w _;
  fill_word_10_11_12 = λ w. legal_accepted.refused w _;
  word_capacity_10_11_12 = λ w. legal_accepted.refused w _;
  sized = λ P. sizes (length P);
  neither = neither;
  shape_256 = shape_256;
  shape_512 = shape_512;
  write_first_1 = λ P. write_first_1 (shape_of P) P;
  write_first_2 = λ P. write_first_2 (shape_of P) P;
  write_first_4 = λ P. write_first_4 (shape_of P) P;
  words_at = λ P. (length_page_words P (shape_of P).words, λ i h. get_d_page_words P (shape_of P).words i h);
  read_first_1567 = λ P. read_first_1567 (shape_of P) P;
  read_first_3 = λ P. read_first_3 (shape_of P) P;
  page_capacity_1 = λ P. capacity_1 (shape_of P) P;
  page_capacity_5 = λ P. capacity_5 (shape_of P) P;
  page_capacity_6 = λ P. capacity_6 (shape_of P) P;
  page_capacity_7 = λ P. capacity_7 (shape_of P) P;
  fill_page_1567 = λ P. check_refusals (shape_of P) P _;
  encode_word_by = λ value. no_other [] _;
  decode_word_by = λ w. no_other (legal_checks w) _;
  fill_word_by = λ w. no_other (legal_checks w) _;
  word_capacity_by = λ w. no_other (legal_checks w) _;
  write_first_by = λ P D. no_other (write_first_checks (shape_of P) P D) 0;
  read_first_by = λ P out. no_other (read_first_checks (shape_of P) P out) 0;
  page_capacity_by = λ P. no_other (capacity_checks (shape_of P) P) _;
  fill_page_by = λ P. no_other (first_checks (shape_of P) P) _;
  write_first_refused = λ P D n i. refused_leaves (write_first_answer P D) P (first_page (shape_of P) P D) n i;
  read_first_refused = λ P out n i. refused_leaves (read_first_answer P out) out (at_start (first_record (page_words P (shape_of P).words)) out) n i;
  fill_page_refused = λ P n i. refused_leaves (fill_page_answer P) P (filled_page (shape_of P) P) n i;
  write_second = writer_of fill_code;
  read_second = reader_of fill_code fill_laws.same_judged;
  write_inspect = writer_of inspect_code;
  read_inspect = reader_of inspect_code inspect_laws.same_judged;
  longest_lengths = (refl, refl, refl, refl);
}

-- ---- demand 2

pub demand2 : Demand2
demand2 = record {
  first_pages = λ s k. first_pages (sound_known s k);
  with_fill = λ s k. fill_twice (sound_known s k);
  inspect = λ s k. inspect_twice (sound_known s k);
}

-- ---- demand 3

codes_differ : {σ : Shape} → Sound σ → (P Q R S : List ℕ) → FirstRoundOf σ P → FirstRoundOf σ Q → FitsOf fill_code σ R P → FitsOf inspect_code σ S Q
    → ¬ (get_or (outcome_of fill_code σ P R) 0 0 ≡ get_or (outcome_of inspect_code σ Q S) 0 0)
codes_differ f P Q R S p q r s e = omega (arith, e, ((fill_writing f).header P R p r).0, ((inspect_writing f).header Q S q s).0)

pub demand3 : Demand3
demand3 = record {
  fill_accepted = λ s k P p. let f = sound_known s k in (fill_taken f P p, ((fill_twice f).ready (fill_page_leaves P)).1 (P, p, refl));
  with_fill = λ s k. fill_writing (sound_known s k);
  inspect = λ s k. inspect_writing (sound_known s k);
  codes_differ = λ s k. codes_differ (sound_known s k);
  figures = figures_of sound256 _ _ _ _ refl refl refl refl;
  figures_512 = figures_of sound512 _ _ _ _ refl refl refl refl;
  sure_lengths = (refl, refl, refl, refl);
}
