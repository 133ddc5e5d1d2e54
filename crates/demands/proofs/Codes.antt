-- The fill code and the Inspect code obey the laws of a code, and the step ahead of each one's writer: so what is demanded of a code holds of
-- both, over each known shape of page.
-- Assumes nothing.
use mathlib.Core.Bool.{Bool, false}
use mathlib.Core.List.{List, [], ◌∷◌}
use mathlib.Core.Logic.{⊎_elim}
use mathlib.Core.Path.{◌≡◌, refl, sym, ap, ap₂, ◌∙◌, subst}
use Prim.Native.Nat.{ℕ, suc, ◌≤◌}
use native.Mathlib.Omega.{arith}
use lib.Dec.{T}
use lib.ListN.{length, take, drop}
use lib.Seq.{drop-cons, take_at, take_all}
use Rattle.cells.specs.Cells.{first, rest, bit, cells, fit, kept, some_set}
use Rattle.cells.proofs.Fits.{fit_pad, some_set_fit}
use Rattle.cells.proofs.Kept.{kept_self, kept_append}
use Rattle.answer.specs.Answer.{result}
use Rattle.answer.proofs.Chains.{taken_leaves}
use Rattle.window.specs.Words.{join, Words, page_words, put_words}
use Rattle.word.specs.Word.{legal}
use Rattle.word.specs.Fill.{fill, read, put, well_formed, is_filled}
use Rattle.word.proofs.Sums.{legal_parts}
use Rattle.word.proofs.Filling.{length_fill}
use Rattle.word.proofs.SecondBits.{length_put}
use Rattle.word.proofs.Claims.{second_bits_kept, well_formed_words}
use Rattle.rows.specs.declared.shape.Shape.{Shape}
use Rattle.rows.specs.Page.{shape_of, state_first, state_filled, byte1, with_header, fill_all, capacity_all, read_all, put_all, filled_page, FirstRoundOf}
use Rattle.rows.specs.Code.{fill_code}
use Rattle.rows.proofs.EachWord.{Each, each_sparse}
use Rattle.rows.proofs.SecondWords.{length_fill_all, length_put_all, Words-fill_all, Words-put_all, read_most, capacity_count, read_back, put_all_spare}
use Rattle.rows.proofs.Sums.{capacity_bounds_all}
use Rattle.rows.proofs.Shapes.{Sound, sound256, sound512, own_shape}
use Rattle.page.proofs.FirstAnswers.{check_taken}
use Rattle.filled.specs.Answer.{pulses_of, fill_page_answer, fill_page_leaves}
use Rattle.inspect.specs.Rows.{taken_all, unwalked_all, inspect_code}
use Rattle.inspect.proofs.Rows.{length_walked_all, words_walked_all, length_unwalked_all, words_unwalked_all, kept_walked_all, taken_all_bits, taken_all_most, taken_all_least, read_all_most, legal_unwalked_all, walked_all_unwalked_all, taken_all_unwalked_all, row_back}
use Rattle.demands.specs.Demands.{Known, TwiceWrittenOf, WritingOf}
use Rattle.demands.proofs.Laws.{CodeLaws, Told, AheadOf}
use Rattle.demands.proofs.Laid.{laid_row, laid_put, laid_round}
use Rattle.demands.proofs.Kept.{kept_fill_all}
use Rattle.demands.proofs.Origins.{formed_put_all, origins}
use Rattle.demands.proofs.Written.{twice_of, writing_of}

-- ---- the fill code

filled_fill_all : (ws : List (List Bool)) → Words ws → Each legal ws → Each is_filled (fill_all ws)
unfolding fill_all fill
filled_fill_all [] h t = tt
filled_fill_all (w ∷ ws) h t =
    ((well_formed_words.filled_from (fill w) (length_fill false w ∙ h.0)).1 (w, (h.0, t.0), refl), filled_fill_all ws h.1 t.1)

-- filled words are legal words filled
unfilled : (vs : List (List Bool)) → Words vs → Each is_filled vs
    → (ws : List (List Bool)) × Words ws × (length ws ≡ length vs) × Each legal ws × (fill_all ws ≡ vs)
unfolding fill_all
unfilled [] h t = ([], tt, refl, tt, refl)
unfilled (v ∷ vs) h t =
    let u = (well_formed_words.filled_from v h.0).0 t.0 in
    let o = unfilled vs h.1 t.1 in
    (u.0 ∷ o.0, (u.1.0, o.1), ap suc o.2, (u.1.1, o.3), ap₂ (λ (x : List Bool) (r : List (List Bool)). x ∷ r) (sym u.2) o.4)

kept_put : (ws : List (List Bool)) (bs : List Bool) → Words ws → Each is_filled ws → T (kept (join ws) (join (put_all ws bs)))
unfolding join put_all kept put
kept_put [] bs h t = tt
kept_put (w ∷ ws) bs h t =
    let u = (well_formed_words.filled_from w h.0).0 t.0 in
    kept_append w (join ws) (put w bs) (join (put_all ws (drop (length (read w)) bs))) (sym (length_put false w bs))
    (rw u.2 (second_bits_kept.keeps_filled u.0 bs (legal_parts u.0 u.1.1).0))
    (kept_put ws (drop (length (read w)) bs) h.1 t.1)

front : (k : ℕ) (bs : List Bool) → length bs ≤ k → take (length bs) (fit k bs) ≡ bs
front k bs h = ap (take (length bs)) (fit_pad k bs h) ∙ take_at bs _ (length bs) refl

-- filled words have as many data cells as the capacity of the legal words that they come from
room_of_lem : (ws us : List (List Bool)) → fill_all us ≡ ws → length (read_all ws) ≡ capacity_all us
room_of_lem ws us e = ap (λ (vs : List (List Bool)). length (read_all vs)) (sym e) ∙ sym (capacity_count us)

pub fill_laws : CodeLaws fill_code
fill_laws = record {
  prepared = λ ws h t. (Words-fill_all ws h, length_fill_all ws, filled_fill_all ws h t);
  same_words = λ ws bs h. (Words-put_all ws bs h, length_put_all ws bs);
  same_judged = λ n ws. refl;
  prepare_keeps = kept_fill_all;
  put_keeps = kept_put;
  read_back = λ ws bs h t l.
      let o = unfilled ws h t in
      let us = o.0 in
      let e : read_all (put_all ws bs) ≡ fit (capacity_all us) bs = ap (λ (vs : List (List Bool)). read_all (put_all vs bs)) (sym o.4) ∙ read_back us bs in (
        ap (take (length bs)) e ∙ front (capacity_all us) bs (omega (arith, room_of_lem ws us o.4)),
        subst (λ (vs : List (List Bool)). Each well_formed (put_all vs bs)) o.4 (formed_put_all us bs (each_sparse us o.3)),
        ap (λ (l : List Bool). some_set (drop (length bs) l)) e ∙ some_set_fit (capacity_all us) (length bs) bs (omega arith),
      );
  origin = λ n vs h t l z.
      let o = origins vs h t in
      let us = o.0 in
      let q = o.1 in (
        us,
        q.row.1,
        q.row.0,
        q.all_legal,
        put_all_spare (fill_all us) n (read_all vs) z ∙ q.put_again,
        omega (arith, sym (capacity_count us), q.same_room, l),
      );
  ready_origin = unfilled;
  always_in = λ ws bs h t l.
      let o = unfilled ws h t in
      omega (arith, room_of_lem ws o.0 o.4, o.2, capacity_bounds_all o.0 o.1 o.3);
  at_most = λ ws bs h. read_most ws h;
  states = (omega arith, omega arith);
  states_up = unfold kept cells bit first rest in (tt, tt);
}

-- ---- the Inspect code

pub inspect_laws : CodeLaws inspect_code
inspect_laws = record {
  prepared = λ ws h t. (h, refl, t);
  same_words = λ ws bs h. (words_walked_all ws bs h, length_walked_all ws bs);
  same_judged = length_unwalked_all;
  prepare_keeps = λ ws. kept_self (join ws);
  put_keeps = λ ws bs h t. kept_walked_all ws bs;
  read_back = λ ws bs h t l.
      let e : taken_all ws bs ≡ length bs = omega (arith, taken_all_bits ws bs) in (
        ap (take (length bs)) (row_back ws bs (each_sparse ws t) e) ∙ take_all (length bs) bs (omega arith),
        legal_unwalked_all ws bs (length bs) t (omega arith) (omega arith),
        refl,
      );
  origin = λ n vs h t l z.
      let e = take_all n (inspect_code.found n vs) (read_all_most n vs) in (
        unwalked_all n vs,
        words_unwalked_all n vs h,
        length_unwalked_all n vs,
        t,
        rw e (walked_all_unwalked_all n vs),
        rw e (omega (arith, taken_all_unwalked_all n vs, l)),
      );
  ready_origin = λ vs h t. (vs, h, refl, t, refl);
  always_in = λ ws bs h t l. omega (arith, taken_all_least ws bs h);
  at_most = taken_all_most;
  states = (omega arith, omega arith);
  states_up = unfold kept cells bit first rest in (tt, tt);
}

-- ---- the step ahead

-- the state put where bytes 1 and 2 are 0
header_is : {σ : Shape} → Sound σ → (k : ℕ) (P : List ℕ) → FirstRoundOf σ P → k ∷ drop 1 P ≡ with_header k 0 P
header_is f k P p =
    ap (λ (l : List ℕ). k ∷ l) (drop-cons P 1 0 (omega (arith, f.inside, p.sized)) ∙ ap (λ (l : List ℕ). byte1 P ∷ l) (drop-cons P 2 0 (omega (arith, f.inside, p.sized)))
    ∙ ap₂ (λ (a b : ℕ). a ∷ b ∷ drop 3 P) p.byte1_zero p.byte2_zero)

pub ahead_filled : {σ : Shape} → Sound σ → AheadOf fill_code (filled_page σ) σ
unfolding filled_page
ahead_filled {σ} f P p = ap (λ (l : List ℕ). put_words l (fill_all (page_words P σ.words))) (header_is f state_filled P p)

-- both shapes are sound
pub sound_known : (σ : Shape) → Known σ → Sound σ
sound_known σ k = ⊎_elim (λ e. subst Sound (sym e) sound256) (λ e. subst Sound (sym e) sound512) k

module _ {σ : Shape} (f : Sound σ) where
  pub fill_taken : (P : List ℕ) → FirstRoundOf σ P → fill_page_answer P ≡ result (pulses_of σ P)
  fill_taken P p = rw (own_shape f P p.sized) ((check_taken σ P _ _ p.of_bytes).1 (p, refl))

  pub fill_leaves : (P : List ℕ) → FirstRoundOf σ P → fill_page_leaves P ≡ filled_page σ P
  fill_leaves P p =
      taken_leaves (fill_page_answer P) P (filled_page (shape_of P) P) _ (fill_taken P p) ∙ ap (λ (s : Shape). filled_page s P) (own_shape f P p.sized)

  pub ahead_fill : AheadOf fill_code fill_page_leaves σ
  ahead_fill P p = fill_leaves P p ∙ ahead_filled f P p

  -- two bytes tell the length
  pub told_fill : Told fill_code σ
  told_fill = omega (arith, f.few)

  -- ---- demands 2 and 3

  pub fill_twice : TwiceWrittenOf fill_code fill_page_leaves σ
  fill_twice = twice_of f fill_laws told_fill ahead_fill

  pub fill_writing : WritingOf fill_code fill_page_leaves σ
  fill_writing = writing_of f fill_laws told_fill ahead_fill

  pub ahead_inspect : AheadOf inspect_code (λ P. P) σ
  ahead_inspect P p =
      sym (laid_round f state_first legal P p)
      ∙ sym (laid_put f P p.of_bytes p.sized state_first 0 (page_words P σ.words) (omega arith) (omega arith) (laid_row f P p.sized))

  pub told_inspect : Told inspect_code σ
  told_inspect = omega (arith, f.few)

  pub inspect_twice : TwiceWrittenOf inspect_code (λ P. P) σ
  inspect_twice = twice_of f inspect_laws told_inspect ahead_inspect

  pub inspect_writing : WritingOf inspect_code (λ P. P) σ
  inspect_writing = writing_of f inspect_laws told_inspect ahead_inspect
