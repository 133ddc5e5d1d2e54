-- What filling and writing leave, byte by byte of the header and word by word, and that no call clears a cell (specs/Outcome.antt).
-- Assumes nothing.
use mathlib.Core.Bool.{Bool}
use mathlib.Core.List.{List, [], ◌∷◌}
use mathlib.Core.Path.{◌≡◌, refl, sym, ap, ◌∙◌, subst}
use Prim.Native.Nat.{ℕ, zero, suc, ◌*◌, ◌≤◌, ◌<◌}
use native.Mathlib.Omega.{arith}
use lib.Dec.{T}
use lib.ListN.{length, take, drop, get_or, replicate}
use lib.Seq.{drop-drop}
use Rattle.cells.specs.Cells.{bit}
use Rattle.cells.specs.Bytes.{bits, Bytes, at_start}
use Rattle.cells.proofs.Bits.{bit_zero}
use Rattle.answer.specs.Answer.{Answer, result, refusal, after}
use Rattle.window.specs.Words.{pieces, word_at, page_words}
use Rattle.window.proofs.Words.{get_d_page_words}
use Rattle.word.specs.Fill.{fill_from, fill, read, capacity, put}
use Rattle.rows.specs.declared.shape.Shape.{Shape}
use Rattle.rows.specs.Page.{shape_of, blank_of, fill_all, sum_over, capacity_all, put_all, first_page, filled_page, FirstRoundOf}
use Rattle.rows.specs.Code.{Code, fill_code, room_for, ReadyOf, FitsOf, written_of, outcome_of}
use Rattle.rows.proofs.Blank.{blank_zeros}
use Rattle.rows.proofs.Shapes.{Sound, sound_of}
use Rattle.page.specs.Answer.{write_first_answer, write_first_leaves, write_answer, write_leaves}
use Rattle.page.proofs.FirstAnswers.{write_first, check_taken}
use Rattle.filled.specs.Answer.{fill_page_answer, fill_page_leaves}
use Rattle.block.specs.Block.{kept_pages}
use Rattle.block.specs.Answer.{collect_answer, collect_leaves}
use Rattle.block.proofs.Claims.{collects_right}
use Rattle.walk.specs.Walk.{walked, taken}
use Rattle.inspect.specs.Rows.{walked_all, taken_all, inspect_code}
use Rattle.demands.specs.Demands.{WritingOf}
use Rattle.demands.specs.Outcome.{OutcomeByWords, Keeps, NoCellCleared}
use Rattle.demands.proofs.Coded.{ahead_words}
use Rattle.demands.proofs.Written.{writer_of, written_keeps}
use Rattle.demands.proofs.Blocks.{place_keeps}
use Rattle.demands.proofs.Codes.{fill_laws, inspect_laws, sound_known, told_fill, told_inspect, ahead_fill, ahead_inspect, fill_leaves, fill_twice, fill_writing, inspect_writing}

-- ---- word by word

get_d_fill_all : (ws : List (List Bool)) (i : ℕ) → get_or (fill_all ws) i [] ≡ fill (get_or ws i [])
unfolding fill_all fill fill_from
get_d_fill_all [] i = refl
get_d_fill_all (w ∷ ws) zero = refl
get_d_fill_all (w ∷ ws) (suc i) = get_d_fill_all ws i

-- word i of filled words with bits put into them, the words being pieces of a row of cells
get_d_put : (n : ℕ) (l bs : List Bool) (i : ℕ) → i < n
    → get_or (put_all (fill_all (pieces n l)) bs) i [] ≡ put (fill (get_or (pieces n l) i [])) (drop (capacity_all (pieces i l)) bs)
unfolding pieces fill_all put_all sum_over capacity
get_d_put zero l bs i h = absurd (omega arith)
get_d_put (suc n) l bs zero h = refl
get_d_put (suc n) l bs (suc i) h =
    let k = length (read (fill (take 46 l))) in
    get_d_put n (drop 46 l) (drop k bs) i (omega arith)
    ∙ ap (put (fill (get_or (pieces n (drop 46 l)) i []))) (drop-drop (capacity_all (pieces i (drop 46 l))) k bs)

-- word i of words that were walked, likewise
get_d_walked : (n : ℕ) (l bs : List Bool) (i : ℕ) → i < n
    → get_or (walked_all (pieces n l) bs) i [] ≡ walked (get_or (pieces n l) i []) (drop (taken_all (pieces i l) bs) bs)
unfolding pieces walked_all taken_all
get_d_walked zero l bs i h = absurd (omega arith)
get_d_walked (suc n) l bs zero h = refl
get_d_walked (suc n) l bs (suc i) h =
    let k = taken (take 46 l) bs in
    get_d_walked n (drop 46 l) (drop k bs) i (omega arith)
    ∙ ap (walked (get_or (pieces n (drop 46 l)) i [])) (drop-drop (taken_all (pieces i (drop 46 l)) (drop k bs)) k bs)

filled_word : {σ : Shape} → Sound σ → (P : List ℕ) → FirstRoundOf σ P → (i : ℕ) → i < σ.words → word_at (fill_page_leaves P) i ≡ fill (word_at P i)
filled_word {σ} f P p i h =
    sym (get_d_page_words (fill_page_leaves P) σ.words i h)
    ∙ ap (λ (ws : List (List Bool)). get_or ws i []) (ahead_words f fill_laws (told_fill f) (ahead_fill f) P p)
    ∙ get_d_fill_all (page_words P σ.words) i
    ∙ ap fill (get_d_page_words P σ.words i h)

-- word i of the outcome, by either code
outcome_at : {c : Code} {ahead : List ℕ → List ℕ} {σ : Shape} → WritingOf c ahead σ → (P R : List ℕ) → FirstRoundOf σ P → FitsOf c σ R P
    → (i : ℕ) → i < σ.words → word_at (outcome_of c σ P R) i ≡ get_or (c.put (c.prepare (page_words P σ.words)) (bits R)) i []
outcome_at {c} {σ = σ} w P R p r i h =
    sym (get_d_page_words (outcome_of c σ P R) σ.words i h) ∙ ap (λ (ws : List (List Bool)). get_or ws i []) (w.outcome_words P R p r)

outcome_word : {σ : Shape} → Sound σ → (P R : List ℕ) → FirstRoundOf σ P → FitsOf fill_code σ R P → (i : ℕ) → i < σ.words
    → word_at (outcome_of fill_code σ P R) i ≡ put (fill (word_at P i)) (drop (capacity_all (page_words P i)) (bits R))
unfolding page_words
outcome_word {σ} f P R p r i h =
    outcome_at (fill_writing f) P R p r i h
    ∙ get_d_put σ.words (drop 24 (bits P)) (bits R) i h
    ∙ ap (λ (w : List Bool). put (fill w) (drop (capacity_all (page_words P i)) (bits R))) (get_d_page_words P σ.words i h)

inspect_word : {σ : Shape} → Sound σ → (P R : List ℕ) → FirstRoundOf σ P → FitsOf inspect_code σ R P → (i : ℕ) → i < σ.words
    → word_at (outcome_of inspect_code σ P R) i ≡ walked (word_at P i) (drop (taken_all (page_words P i) (bits R)) (bits R))
unfolding page_words
inspect_word {σ} f P R p r i h =
    outcome_at (inspect_writing f) P R p r i h
    ∙ get_d_walked σ.words (drop 24 (bits P)) (bits R) i h
    ∙ ap (λ (w : List Bool). walked w (drop (taken_all (page_words P i) (bits R)) (bits R))) (get_d_page_words P σ.words i h)

pub outcome_by_words : OutcomeByWords
outcome_by_words = record {
  filled_header = λ s k P p.
      let q = ((fill_twice (sound_known s k)).ready (fill_page_leaves P)).1 (P, p, refl) in (q.in_state, q.byte1_zero, q.byte2_zero);
  filled_word = λ s k. filled_word (sound_known s k);
  outcome_word = λ s k. outcome_word (sound_known s k);
  inspect_word = λ s k. inspect_word (sound_known s k);
}

-- ---- no cell is cleared

-- a refused call leaves its page: only what an accepted one leaves is to be looked at
keeps_after : (a : Answer) (old new : List ℕ) → ((v : ℕ) → a ≡ result v → Keeps old new) → Keeps old (after a old new)
keeps_after (result v) old new h = h v refl
keeps_after (refusal n i) old new h = λ j b t. t

get_d_zeros : (n i : ℕ) → ◌≡◌ {A = ℕ} (get_or (replicate n 0) i 0) 0
get_d_zeros zero i = refl
get_d_zeros (suc n) zero = refl
get_d_zeros (suc n) (suc i) = get_d_zeros n i

-- a blank page, or block, has no set cell
blank_keeps : (n : ℕ) (P Q : List ℕ) → P ≡ blank_of n → Keeps P Q
unfolding blank_of
blank_keeps n P Q e i b t = absurd (subst T (ap (λ (l : List ℕ). bit (get_or l i 0) b) e ∙ ap (λ (x : ℕ). bit x b) (get_d_zeros n i) ∙ bit_zero b) t)

first_keeps : (P D : List ℕ) → Keeps P (write_first_leaves P D)
first_keeps P D =
    keeps_after (write_first_answer P D) P (first_page (shape_of P) P D) (λ v e. blank_keeps (shape_of P).size P (first_page (shape_of P) P D) ((write_first (shape_of P) P D v).0 e).0)

collect_keeps : (S target : List ℕ) (keep : ℕ) → Keeps target (collect_leaves S keep target)
collect_keeps S target keep =
    let new = at_start (kept_pages S keep 16) target in
    keeps_after (collect_answer S keep target) target new (λ n e.
    blank_keeps (length target) target new (blank_zeros target ((collects_right.accepted S target keep n).0 e).1))

fill_keeps : (P : List ℕ) → Bytes P → Keeps P (fill_page_leaves P)
fill_keeps P h =
    keeps_after (fill_page_answer P) P (filled_page (shape_of P) P) (λ v e.
    let f = sound_of P in
    let p = ((check_taken (shape_of P) P _ v h).0 e).0 in
    subst (Keeps P) (fill_leaves f P p) ((fill_writing f).ahead_clears_none P p))

-- by either code
write_keeps : (c : Code) (P R : List ℕ)
    → ((F R : List ℕ) → ReadyOf c (shape_of P) F → Bytes R → 8 * length R ≤ room_for c (shape_of P) F R → Keeps F (written_of c (shape_of P) F R))
    → Bytes P → Bytes R → Keeps P (write_leaves c P R)
write_keeps c P R w h k =
    keeps_after (write_answer c P R) P (written_of c (shape_of P) P R) (λ v e.
    let a = ((writer_of c).accepted P R v h).0 e in
    w P R a.0 k a.1)

pub no_cell_cleared : NoCellCleared
no_cell_cleared = record {
  write_first = first_keeps;
  fill_page = fill_keeps;
  write_second = λ P R.
      let f = sound_of P in
      write_keeps fill_code P R (written_keeps f fill_laws (told_fill f) (ahead_fill f));
  write_inspect = λ P R.
      let f = sound_of P in
      write_keeps inspect_code P R (written_keeps f inspect_laws (told_inspect f) (ahead_inspect f));
  place_record = place_keeps;
  collect_block = collect_keeps;
}
