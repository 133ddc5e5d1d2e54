-- The claim of specs/Earlier.antt: what the earlier fill left of a first-round page is a filled page with the capacity that it had, so it is the
-- fill of another first-round page, of which the demands speak.
-- Assumes nothing.
use mathlib.Core.Bool.{Bool, false}
use mathlib.Core.List.{List, [], ◌∷◌, ◌++◌}
use mathlib.Core.Logic.{inl, inr}
use mathlib.Core.Path.{◌≡◌, refl, sym, ap, ap₂, ◌∙◌, subst}
use Prim.Native.Nat.{ℕ, suc, ◌+◌, ◌*◌, ◌/◌, ◌%◌, ◌≤◌, ◌<◌}
use native.Mathlib.Omega.{arith}
use lib.ListN.{length, drop, length-append}
use Rattle.cells.specs.Bytes.{bits}
use Rattle.cells.proofs.Bytes.{Bytes-drop}
use Rattle.answer.specs.Answer.{result, refusal}
use Rattle.answer.proofs.Chains.{taken_leaves}
use Rattle.window.specs.Words.{page_words, put_words, Words}
use Rattle.word.specs.Word.{sparse, legal}
use Rattle.word.specs.Fill.{read, is_filled}
use Rattle.word.specs.Earlier.{fill_earlier, capacity_earlier}
use Rattle.word.proofs.Earlier.{length_earlier, earlier_words}
use Rattle.rows.specs.declared.shape.Shape.{Shape}
use Rattle.rows.specs.Page.{page256, shape_of, tail, state_filled, state_second, sum_over, capacity_all, read_all, put_all, FirstRoundOf, FilledOf}
use Rattle.rows.specs.Code.{fill_code, room_for, room_ahead, FitsOf, written_of, outcome_of}
use Rattle.rows.proofs.EachWord.{Each, each_sparse, each_word, Row}
use Rattle.rows.proofs.SecondWords.{row_put_all}
use Rattle.rows.proofs.Shapes.{sound256, own_shape}
use Rattle.filled.specs.Answer.{fill_page_leaves, page_capacity_answer}
use Rattle.second.specs.Answer.{write_second_answer, write_second_leaves, read_second_answer, read_second_leaves}
use Rattle.demands.specs.Demands.{data_cells_of, filled_cells_of}
use Rattle.demands.specs.Earlier.{fill_earlier_all, room_earlier, filled_earlier, outcome_earlier, EarlierPages}
use Rattle.demands.proofs.Laid.{laid, laid_row, laid_words, laid_tail, laid_open, length_tail, laid_put, laid_state}
use Rattle.demands.proofs.Bounds.{capacity_is, room_is, room_over}
use Rattle.demands.proofs.Demands.{demand1, demand2, demand3}
use Rattle.demands.proofs.Lengths.{header_then}

-- ---- words

row_earlier : (n : ℕ) (ws : List (List Bool)) → Row n ws → Row n (fill_earlier_all ws)
unfolding fill_earlier_all fill_earlier
row_earlier n ws r = (lengths ws ∙ r.0, words ws r.1)
  where
    lengths : (vs : List (List Bool)) → length (fill_earlier_all vs) ≡ length vs
    lengths [] = refl
    lengths (v ∷ vs) = ap suc (lengths vs)

    words : (vs : List (List Bool)) → Words vs → Words (fill_earlier_all vs)
    words [] h = tt
    words (v ∷ vs) h = (length_earlier false v ∙ h.0, words vs h.1)

filled_all : (ws : List (List Bool)) → Each sparse ws → Each is_filled (fill_earlier_all ws)
unfolding fill_earlier_all
filled_all [] h = tt
filled_all (w ∷ ws) h = (earlier_words.filled w h.0, filled_all ws h.1)

same_sum : (ws : List (List Bool)) → capacity_all ws ≡ sum_over capacity_earlier ws
unfolding sum_over
same_sum [] = refl
same_sum (w ∷ ws) = ap₂ (λ (a b : ℕ). a + b) (earlier_words.same_capacity w) (same_sum ws)

count_all : (ws : List (List Bool)) → length (read_all (fill_earlier_all ws)) ≡ sum_over capacity_earlier ws
unfolding sum_over read_all fill_earlier_all capacity_earlier
count_all [] = refl
count_all (w ∷ ws) = omega (arith, length-append (read (fill_earlier w)) (read_all (fill_earlier_all ws)), count_all ws)

-- ---- pages

module _ (P : List ℕ) (p : FirstRoundOf page256 P) where
  abbrev words : List (List Bool)
  words = page_words P 44

  abbrev earlier : List (List Bool)
  earlier = fill_earlier_all words

  abbrev F : List ℕ
  F = filled_earlier P

  row_of : Row 44 earlier
  row_of = row_earlier 44 words (laid_row sound256 P p.sized)

  all_filled : Each is_filled earlier
  all_filled = filled_all words (each_sparse words (each_word legal P 44 p.words_pass))

  abbrev t : List ℕ
  t = tail 44 P

  filled_is : F ≡ laid state_filled 0 0 earlier t
  unfolding filled_earlier
  filled_is = rw (p.byte1_zero, p.byte2_zero) at (laid_state sound256 P p.of_bytes p.sized state_filled earlier (omega arith) row_of)

  filled_filled : FilledOf page256 F
  filled_filled =
      subst (FilledOf page256) (sym filled_is)
      (laid_open sound256 state_filled is_filled earlier t (omega arith) row_of all_filled
      (Bytes-drop 256 P p.of_bytes) p.tail_zero (length_tail sound256 P p.sized))

  -- its own shape
  own : shape_of F ≡ page256
  own = own_shape sound256 F filled_filled.sized

  own_filled : FilledOf (shape_of F) F
  own_filled = rw own filled_filled

  filled_words : page_words F 44 ≡ earlier
  filled_words = ap (λ (G : List ℕ). page_words G 44) filled_is ∙ laid_words sound256 state_filled 0 0 earlier row_of t

  filled_tail : tail 44 F ≡ t
  filled_tail = ap (tail 44) filled_is ∙ laid_tail sound256 state_filled 0 0 earlier row_of t

  capacity_same : room_earlier P ≡ data_cells_of page256 P
  capacity_same = sym (same_sum words) ∙ capacity_is sound256 P p

  room : filled_cells_of page256 F ≡ room_earlier P
  room = sym (room_is sound256 F filled_filled) ∙ ap (λ (ws : List (List Bool)). length (read_all ws)) filled_words ∙ count_all words

  room_for_lem : (R : List ℕ) → room_earlier P ≡ room_for fill_code page256 F R
  room_for_lem R = sym (demand3.figures.filled_room F R filled_filled ∙ room)

  own_room : (R : List ℕ) → room_earlier P ≡ room_for fill_code (shape_of F) F R
  own_room R = room_for_lem R ∙ ap (λ (s : Shape). room_for fill_code s F R) (sym own)

  capacity_stays : page_capacity_answer F ≡ result (room_earlier P)
  capacity_stays = (demand1.page_capacity F (room_earlier P) filled_filled.of_bytes).1
      (inr (own_filled, sym (ap (λ (s : Shape). filled_cells_of s F) own ∙ room)))

  remains : (R : List ℕ) → room_earlier P < 8 * length R → (write_second_answer F R ≡ refusal 8 (room_earlier P)) × (write_second_leaves F R ≡ F)
  remains R h =
      let a = (demand1.write_second.refused_8 F R (room_earlier P) filled_filled.of_bytes).1 (own_filled, own_room R, h) in
      (a, demand1.write_second.refused_leaves F R 8 (room_earlier P) a)

  -- the first-round page whose fill it is now
  now : (Q : List ℕ) × FirstRoundOf page256 Q × (fill_page_leaves Q ≡ F)
  now = ((demand2.with_fill page256 (inl refl)).ready F).0 filled_filled

  module _ (R : List ℕ) (r : FitsOf fill_code page256 R P) where
    abbrev put_words_lem : List (List Bool)
    put_words_lem = put_all earlier (bits R)

    put_row : Row 44 put_words_lem
    put_row = row_put_all 44 earlier (bits R) row_of

    small : length R < 256
    small = omega (arith, (demand3.with_fill page256 (inl refl)).never_in P R p r)

    -- a record over it leaves the outcome of then
    outcome_is : written_of fill_code page256 F R ≡ outcome_earlier P R
    unfolding written_of outcome_earlier
    outcome_is =
        let q = filled_filled in
        laid_put sound256 F q.of_bytes q.sized state_second (length R) (put_all (page_words F 44) (bits R)) (omega arith) (omega (arith, small))
        (row_put_all 44 (page_words F 44) (bits R) (laid_row sound256 F q.sized))
        ∙ ap₂ (λ (ws : List (List Bool)) (u : List ℕ). laid state_second (length R % 256) (length R / 256) (put_all ws (bits R)) u) filled_words filled_tail
        ∙ sym (laid_put sound256 P p.of_bytes p.sized state_second (length R) put_words_lem (omega arith) (omega (arith, small)) put_row)
        ∙ ap (λ (l : List ℕ). put_words l put_words_lem) (header_then P state_second (length R) (omega (arith, p.sized)) p.byte2_zero small)

    room_same : room_ahead fill_code page256 P R ≡ room_earlier P
    room_same = room_over sound256 P R p ∙ sym capacity_same

    accepted : (write_second_answer F R ≡ result 0) × (write_second_leaves F R ≡ outcome_earlier P R)
    accepted =
        let a : write_second_answer F R ≡ result 0 =
        (demand1.write_second.accepted F R 0 filled_filled.of_bytes).1
        (own_filled, omega (arith, own_room R, room_same, r.enough), refl) in (
          a,
          taken_leaves (write_second_answer F R) F (written_of fill_code (shape_of F) F R) 0 a
              ∙ ap (λ (s : Shape). written_of fill_code s F R) own ∙ outcome_is,
        )

    abbrev Q : List ℕ
    Q = now.0

    -- R fits that page too, and leaves the same outcome over it
    fits : FitsOf fill_code page256 R Q
    fits =
        let c : result (data_cells_of page256 Q) ≡ result (room_earlier P) = sym (demand3.figures.capacity_stays Q now.1) ∙ ap page_capacity_answer now.2 ∙ capacity_stays in
        let e : data_cells_of page256 Q ≡ room_earlier P = cc in
        record { of_bytes = r.of_bytes; enough = omega (arith, e, room_same, r.enough, room_over sound256 Q R now.1) }

    written_now : write_second_leaves (fill_page_leaves Q) R ≡ outcome_earlier P R
    written_now = ap (λ (G : List ℕ). write_second_leaves G R) now.2 ∙ accepted.1

    same_outcome : outcome_of fill_code page256 Q R ≡ outcome_earlier P R
    same_outcome = sym ((demand3.with_fill page256 (inl refl)).accepted Q R now.1 fits).1 ∙ written_now

    read_back : (out : List ℕ) → length R ≤ length out
        → (read_second_answer (outcome_earlier P R) out ≡ result (length R)) × (read_second_leaves (outcome_earlier P R) out ≡ R ++ drop (length R) out)
    read_back out l =
        subst (λ (O : List ℕ). (read_second_answer O out ≡ result (length R)) × (read_second_leaves O out ≡ R ++ drop (length R) out)) same_outcome
        ((demand3.with_fill page256 (inl refl)).read_back Q R out now.1 fits l)

pub earlier_pages : EarlierPages
earlier_pages = record {
  capacity_same = capacity_same;
  filled = filled_filled;
  filled_by_now = now;
  capacity_stays = capacity_stays;
  accepted = λ P R p r. accepted P p R r;
  remains_filled = λ P R p h. remains P p R h;
  read_back = λ P R out p r l. read_back P p R r out l;
  twice_written_by_now = λ P R p r. (Q P p R r, (now P p).1, fits P p R r, written_now P p R r);
}
