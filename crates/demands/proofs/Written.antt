-- What is demanded of a code (specs/Demands.antt): demand 1 of any code, demands 2 and 3 of any code that obeys the laws of a code, over any sound
-- shape of page.
-- Assumes nothing.
use mathlib.Core.Bool.{Bool}
use mathlib.Core.List.{List, [], ◌++◌}
use mathlib.Core.Logic.Iff
use mathlib.Core.Logic.{◌↔◌}
use mathlib.Core.Path.{◌≡◌, refl, sym, ap, ◌∙◌, subst}
use Prim.Native.Nat.{ℕ, ◌*◌, ◌≤◌, ◌<◌}
use native.Mathlib.Omega.{arith}
use lib.ListN.{length, drop}
use Rattle.cells.specs.Bytes.{bits, Bytes, at_start}
use Rattle.answer.specs.Answer.{result, refusal, numbers}
use Rattle.answer.proofs.Chains.{no_other, refused_leaves, taken_leaves, output_leaves}
use Rattle.rows.specs.declared.shape.Shape.{Shape}
use Rattle.rows.specs.Page.{shape_of, record_length, FirstRoundOf}
use Rattle.rows.specs.Code.{Code, room_for, room_ahead, ReadyOf, FitsOf, SecondRoundOf, written_of, outcome_of, record_of}
use Rattle.rows.proofs.Shapes.{Sound, own_shape}
use Rattle.page.specs.Terms.{SizedOf}
use Rattle.page.specs.Answer.{write_checks, write_answer, write_leaves, record_checks, read_checks, read_answer, read_leaves}
use Rattle.page.proofs.CodeAnswers.{write_taken, write_1567, write_8, length_judged, read_taken, read_1, read_5, read_6, read_7, read_9, read_3}
use Rattle.demands.specs.Demands.{WriterOf, ReaderOf, TwiceWrittenOf, WritingOf}
use Rattle.demands.specs.Outcome.{Keeps}
use Rattle.demands.proofs.Laws.{CodeLaws, Told, AheadOf}
use Rattle.demands.proofs.Coded.{ahead_ready, ahead_words, ahead_clears_none, always_in, never_in, written_is, outcome_sized, outcome_Bytes, outcome_state, length_back, outcome_byte1, outcome_byte2, outcome_tail, outcome_words, writing_clears_none, record_back, outcome_second, differ, ready_from, second_from}

-- ---- demand 1, of any code

pub writer_of : (c : Code) → WriterOf c
unfolding write_checks numbers
writer_of c = record {
  accepted = λ P. write_taken c (shape_of P) P;
  refused_1567 = λ P. write_1567 c (shape_of P) P;
  refused_8 = λ P. write_8 c (shape_of P) P;
  refused_by = λ P R. no_other (write_checks c (shape_of P) P R) 0;
  refused_leaves = λ P R n i. refused_leaves (write_answer c P R) P (written_of c (shape_of P) P R) n i;
}

module _ (c : Code) (same : (n : ℕ) (ws : List (List Bool)) → length (c.judged n ws) ≡ length ws) where
  reads : (P out : List ℕ) (n : ℕ) → Bytes P
      → (read_answer c P out ≡ result n) ↔ (SecondRoundOf c (shape_of P) P × (n ≡ record_length P) × (n ≤ length out))
  reads P out n b =
      Iff.trans (read_taken c same (shape_of P) P out n b)
      (λ h. (h.0, h.2, omega (arith, h.1, h.2)), λ h. (h.0, omega (arith, h.1, h.2), h.1))

  pub reader_of : ReaderOf c
  unfolding read_checks record_checks numbers
  reader_of = record {
    accepted = reads;
    refused_1 = λ P. read_1 c same (shape_of P) P;
    refused_5 = λ P. read_5 c same (shape_of P) P;
    refused_6 = λ P. read_6 c same (shape_of P) P;
    refused_7 = λ P. read_7 c same (shape_of P) P;
    judged_words = λ P. length_judged c same (shape_of P) P [];
    refused_9 = λ P. read_9 c same (shape_of P) P;
    refused_3 = λ P. read_3 c same (shape_of P) P;
    refused_by = λ P out. no_other (read_checks c (shape_of P) P out) (record_length P);
    refused_leaves = λ P out n i. refused_leaves (read_answer c P out) out (at_start (record_of c (shape_of P) P) out) n i;
  }

-- ---- demands 2 and 3

module _ {σ : Shape} (f : Sound σ) {c : Code} (laws : CodeLaws c) (told : Told c σ) {ahead : List ℕ → List ℕ}
    (before : AheadOf c ahead σ) where
  module _ (P : List ℕ) (p : FirstRoundOf σ P) where
    ready : ReadyOf c σ (ahead P)
    ready = ahead_ready f laws told before P p

    -- what the step ahead leaves has the same shape
    held : shape_of (ahead P) ≡ σ
    held = own_shape f (ahead P) ready.sized

    held_ready : ReadyOf c (shape_of (ahead P)) (ahead P)
    held_ready = rw held ready

    room_ahead_lem : (R : List ℕ) → room_for c σ (ahead P) R ≡ room_ahead c σ P R
    room_ahead_lem R = ap (λ (ws : List (List Bool)). c.room ws (bits R)) (ahead_words f laws told before P p)

    held_room : (R : List ℕ) → room_for c (shape_of (ahead P)) (ahead P) R ≡ room_ahead c σ P R
    held_room R = ap (λ (s : Shape). room_for c s (ahead P) R) held ∙ room_ahead_lem R

    accepted : (R : List ℕ) → FitsOf c σ R P → (write_answer c (ahead P) R ≡ result 0) × (write_leaves c (ahead P) R ≡ outcome_of c σ P R)
    accepted R r =
        let a : write_answer c (ahead P) R ≡ result 0 =
        ((writer_of c).accepted (ahead P) R 0 ready.of_bytes).1 (held_ready, omega (arith, held_room R, r.enough), refl) in (
          a,
          taken_leaves (write_answer c (ahead P) R) (ahead P) (written_of c (shape_of (ahead P)) (ahead P) R) 0 a
              ∙ ap (λ (s : Shape). written_of c s (ahead P) R) held ∙ written_is f laws told before P p R r,
        )

    -- a record that has no room
    remains : (R : List ℕ) → room_ahead c σ P R < 8 * length R
        → (write_answer c (ahead P) R ≡ refusal 8 (room_ahead c σ P R)) × (write_leaves c (ahead P) R ≡ ahead P)
    remains R h =
        let a = ((writer_of c).refused_8 (ahead P) R (room_ahead c σ P R) ready.of_bytes).1 (held_ready, sym (held_room R), h) in
        (a, (writer_of c).refused_leaves (ahead P) R _ _ a)

    back : (R out : List ℕ) → FitsOf c σ R P → length R ≤ length out
        → (read_answer c (outcome_of c σ P R) out ≡ result (length R)) × (read_leaves c (outcome_of c σ P R) out ≡ R ++ drop (length R) out)
    back R out r h =
        let O = outcome_of c σ P R in
        let q = outcome_second f laws told before P p R r in
        let e : shape_of O ≡ σ = own_shape f O q.sized in
        let a : read_answer c O out ≡ result (length R) =
        ((reader_of c laws.same_judged).accepted O out (length R) q.of_bytes).1
        (rw e q, sym (length_back f laws told before P p R r), h) in (
          a,
          output_leaves (read_answer c O out) out (record_of c (shape_of O) O) R (length R) a
              (ap (λ (s : Shape). record_of c s O) e ∙ record_back f laws told before P p R r),
        )

  twice : (page out : List ℕ) → SizedOf σ page → Bytes page → record_length page ≤ length out
      → ((n : ℕ) × (read_answer c page out ≡ result n))
      ↔ ((P : List ℕ) × (R : List ℕ) × FirstRoundOf σ P × FitsOf c σ R P × (write_leaves c (ahead P) R ≡ page))
  twice page out z b l = (
    λ h.
        let q = subst (λ (s : Shape). SecondRoundOf c s page) (own_shape f page z) (((reader_of c laws.same_judged).accepted page out h.0 b).0 h.1).0 in
        let o = second_from f laws told before page q in
        (o.0, o.1, o.2, o.3, (accepted o.0 o.2 o.1 o.3).1 ∙ o.4),
    λ h.
        let same : outcome_of c σ h.0 h.1 ≡ page = sym (accepted h.0 h.2 h.1 h.3).1 ∙ h.4 in
        let len : record_length page ≡ length h.1 =
        ap record_length (sym same) ∙ length_back f laws told before h.0 h.2 h.1 h.3 in (
          length h.1,
          subst (λ (Q : List ℕ). read_answer c Q out ≡ result (length h.1)) same (back h.0 h.2 h.1 out h.3 (omega (arith, len))).0,
        ),
  )

  pub twice_of : TwiceWrittenOf c ahead σ
  twice_of = record {
    twice_written = twice;
    ready = λ F. (ready_from f laws told before F, λ h. subst (ReadyOf c σ) h.2 (ready h.0 h.1));
  }

  pub writing_of : WritingOf c ahead σ
  writing_of = record {
    accepted = λ P R p r. accepted P p R r;
    header = λ P R p r. (
      outcome_state f laws told before P p R r,
      outcome_byte1 f laws told before P p R r,
      outcome_byte2 f laws told before P p R r,
      length_back f laws told before P p R r,
    );
    outcome_words = λ P R p r. outcome_words f laws told before P p R r;
    outcome_tail = λ P R p r. outcome_tail f laws told before P p R r;
    ahead_clears_none = λ P p. ahead_clears_none f laws told before P p;
    writing_clears_none = λ P R p r. writing_clears_none f laws told before P p R r;
    no_cell_cleared = λ P R p r i b s.
        writing_clears_none f laws told before P p R r i b (ahead_clears_none f laws told before P p i b s);
    ahead_sized = λ P p. ((ready P p).sized, (ready P p).of_bytes);
    still_sized = λ P R p r. (outcome_sized f laws told before P p R r, outcome_Bytes f laws told before P p R r);
    remains = λ P R p h. remains P p R h;
    read_back = λ P R out p r h. back P p R out r h;
    differ = differ f laws told before;
    always_in = λ P R p b h. always_in f laws told before P p R b h;
    never_in = λ P R p r. never_in f laws told before P p R r;
  }

  -- writing clears no cell of any page that the writer takes: it is what the step ahead leaves of a first-round page, which the record fits
  pub written_keeps : (F R : List ℕ) → ReadyOf c σ F → Bytes R → 8 * length R ≤ room_for c σ F R → Keeps F (written_of c σ F R)
  written_keeps F R q b h =
      let o = ready_from f laws told before F q in
      let e : room_ahead c σ o.0 R ≡ room_for c σ F R = sym (room_ahead_lem o.0 o.1 R) ∙ ap (λ (G : List ℕ). room_for c σ G R) o.2 in
      let r : FitsOf c σ R o.0 = record { of_bytes = b; enough = omega (arith, e) } in
      subst (λ (G : List ℕ). Keeps G (written_of c σ G R)) o.2
      (subst (Keeps (ahead o.0)) (sym (written_is f laws told before o.0 o.1 R r))
      (writing_clears_none f laws told before o.0 o.1 R r))
