-- The claims of specs/Lengths.antt: a length that exceeds a limit below 256 is refused whichever way it is told, and one that does not is byte 1.
-- Assumes nothing.
use mathlib.Core.Bool.{Bool, true, false, cond, not, ◌||◌}
use mathlib.Core.List.{List, [], ◌∷◌}
use mathlib.Core.Logic.{◌⊎◌, inl, inr, ⊎_elim}
use mathlib.Core.Path.{◌≡◌, refl, sym, ap, ap₂, ◌∙◌}
use Prim.Native.Nat.{ℕ, zero, suc, ◌*◌, ◌≤◌, ◌<◌}
use native.Mathlib.Omega.{arith}
use borrow.Author.Tests.{eqb-true, eqb-false, eq-eqb}
use lib.Dec.{eqb, ltb}
use lib.ListN.{length, drop}
use lib.Seq.{drop-cons}
use Rattle.cells.specs.Bytes.{bits, Bytes, zeros, at_start}
use Rattle.answer.specs.Answer.{Answer, result, refusal, Check, refuse, answer, after}
use Rattle.answer.proofs.Tells.{is_held}
use Rattle.window.specs.Words.{page_words, put_words}
use Rattle.window.proofs.Words.{length_page_words, Words-page_words}
use Rattle.rows.specs.declared.shape.Shape.{Shape}
use Rattle.rows.specs.Page.{shape_of, state, byte1, byte2, record_length, tail, bad_header, with_header}
use Rattle.rows.specs.Code.{Code, longest, room_for, written_of, record_of}
use Rattle.rows.proofs.Headers.{header_tells}
use Rattle.rows.proofs.Shapes.{Sound, sound256, sound512, words_inside, own_shape}
use Rattle.page.specs.Terms.{SizedOf}
use Rattle.page.specs.Answer.{refuse_word, write_checks, write_answer, write_leaves, record_checks, read_checks, read_answer, read_leaves}
use Rattle.demands.specs.Lengths.{bad_header_then, with_header_then, write_answer_then, write_leaves_then, record_then, read_answer_then, read_leaves_then, LengthsOf, LengthsOfThen}
use Rattle.demands.proofs.Laws.{CodeLaws}
use Rattle.demands.proofs.Written.{writer_of, reader_of}
use Rattle.demands.proofs.Codes.{fill_laws, inspect_laws}

-- a length below 256 is byte 1, and byte 2 is 0
pub header_then : (P : List ℕ) (k n : ℕ) → 3 ≤ length P → byte2 P ≡ 0 → n < 256 → with_header k n P ≡ with_header_then k n P
header_then P k n l z h =
    ap₂ (λ (a b : ℕ). k ∷ a ∷ b ∷ drop 3 P) (omega arith) (omega (arith, z)) ∙ ap (λ (t : List ℕ). k ∷ n ∷ t) (sym (drop-cons P 2 0 (omega arith)))

-- ---- refusal 6

module _ (most n : ℕ) (P : List ℕ) (h : most < 256) where
  -- where byte 2 is 0 the length is byte 1; where it is not, both refuse
  two_ways : (byte2 P ≡ 0) ⊎ ((bad_header most n P ≡ true) × (bad_header_then most n P ≡ true))
  unfolding bad_header_then
  two_ways = go (eqb (byte2 P) 0) refl
    where
      or_true : (a : Bool) → (a || true) ≡ true
      or_true true = refl
      or_true false = refl

      some : (k : ℕ) → ¬ (k ≡ 0) → 1 ≤ k
      some zero q = absurd (q refl)
      some (suc k) q = omega arith

      go : (t : Bool) → eqb (byte2 P) 0 ≡ t → (byte2 P ≡ 0) ⊎ ((bad_header most n P ≡ true) × (bad_header_then most n P ≡ true))
      go true e = inl (eqb-true (byte2 P) 0 e)
      go false e =
          let k : 1 ≤ byte2 P = some (byte2 P) (eqb-false (byte2 P) 0 e) in
          inr (is_held (header_tells n P most) (inl (omega arith)), rw e (or_true (ltb most (byte1 P))))

  same_bad : byte2 P ≡ 0 → bad_header most n P ≡ bad_header_then most n P
  unfolding bad_header bad_header_then
  same_bad z =
      let e : record_length P ≡ byte1 P = omega (arith, z) in
      let x = not (zeros (tail n P)) in
      ap (λ (k : ℕ). ltb most k || x) e ∙ sym (ap (λ (t : Bool). ltb most (byte1 P) || (not t || x)) (eq-eqb (byte2 P) 0 z))

  bad_same : bad_header most n P ≡ bad_header_then most n P
  bad_same = ⊎_elim same_bad (λ b. b.0 ∙ sym b.1) two_ways

-- ---- answers

-- what is answered where 6 refuses, whatever comes after it
shut : Bool → Bool → Answer
shut a b = cond a (refusal 1 0) (cond b (refusal 5 0) (refusal 6 0))

shut_is : (a b : Bool) (cs : List Check) (v : ℕ) → answer {A = ℕ} (refuse a 1 0 ∷ refuse b 5 0 ∷ refuse true 6 0 ∷ cs) v ≡ shut a b
unfolding answer shut
shut_is true b cs v = refl
shut_is false true cs v = refl
shut_is false false cs v = refl

shut_leaves : (a b : Bool) (old new : List ℕ) → after (shut a b) old new ≡ old
unfolding shut
shut_leaves true b old new = refl
shut_leaves false true old new = refl
shut_leaves false false old new = refl

-- only what an accepted call leaves is to be looked at
after_same : (a : Answer) (old x y : List ℕ) → ((v : ℕ) → a ≡ result v → x ≡ y) → after a old x ≡ after a old y
after_same (result v) old x y h = h v refl
after_same (refusal n i) old x y h = refl

module _ {c : Code} (laws : CodeLaws c) {s : Shape} (f : Sound s) (few : longest c s < 256) (P : List ℕ) (l : SizedOf s P) (b : Bytes P) where
  abbrev ws : List (List Bool)
  ws = page_words P s.words

  own : shape_of P ≡ s
  own = own_shape f P l

  -- ---- the reader

  module _ (out : List ℕ) where
    -- its answer and what it leaves, by a length and a test for 6
    abbrev later : ℕ → List Check
    later n =
        refuse_word c.passes (c.judged (8 * n) ws)
        ∷ refuse (ltb (length (c.found (8 * n) ws)) (8 * n) || c.spare (8 * n) ws) 9 0
        ∷ refuse (ltb (length out) n) 3 0
        ∷ []

    abbrev reads : ℕ → Bool → Answer
    reads n t = answer (refuse (not (eqb (length P) s.size)) 1 0 ∷ refuse (not (eqb (state P) c.into)) 5 0 ∷ refuse t 6 0 ∷ later n) n

    abbrev leaves : ℕ → Bool → List ℕ
    leaves n t = after (reads n t) out (at_start (record_then c n ws) out)

    abbrev bad : Bool
    bad = bad_header (longest c s) s.words P

    abbrev bad_then : Bool
    bad_then = bad_header_then (longest c s) s.words P

    shut_reads : (n : ℕ) (t : Bool) → t ≡ true → reads n t ≡ shut (not (eqb (length P) s.size)) (not (eqb (state P) c.into))
    shut_reads n t e = ap (reads n) e ∙ shut_is (not (eqb (length P) s.size)) (not (eqb (state P) c.into)) (later n) n

    shut_output : (n : ℕ) (t : Bool) → t ≡ true → leaves n t ≡ out
    shut_output n t e =
        ap (λ (a : Answer). after a out (at_start (record_then c n ws) out)) (shut_reads n t e)
        ∙ shut_leaves (not (eqb (length P) s.size)) (not (eqb (state P) c.into)) out (at_start (record_then c n ws) out)

    same_reads : reads (record_length P) bad ≡ reads (byte1 P) bad_then
    same_reads =
        ⊎_elim (λ z. ap₂ reads (omega (arith, z)) (same_bad (longest c s) s.words P few z))
        (λ t. shut_reads (record_length P) bad t.0 ∙ sym (shut_reads (byte1 P) bad_then t.1)) (two_ways (longest c s) s.words P few)

    same_leaves : leaves (record_length P) bad ≡ leaves (byte1 P) bad_then
    same_leaves =
        ⊎_elim (λ z. ap₂ leaves (omega (arith, z)) (same_bad (longest c s) s.words P few z))
        (λ t. shut_output (record_length P) bad t.0 ∙ sym (shut_output (byte1 P) bad_then t.1)) (two_ways (longest c s) s.words P few)

    same_read : read_answer c P out ≡ read_answer_then c s P out
    unfolding read_checks record_checks
    same_read = ap (λ (σ : Shape). answer (read_checks c σ P out) (record_length P)) own ∙ same_reads

    same_output : read_leaves c P out ≡ read_leaves_then c s P out
    unfolding read_checks record_checks record_of
    same_output =
        ap (λ (σ : Shape). after (answer (read_checks c σ P out) (record_length P)) out (at_start (record_of c σ P) out)) own ∙ same_leaves

    byte2_zero : (n : ℕ) → read_answer_then c s P out ≡ result n → (byte2 P ≡ 0) × (record_length P ≡ n)
    byte2_zero n e =
        let a = ((reader_of c laws.same_judged).accepted P out n b).0 (same_read ∙ e) in
        (omega (arith, a.0.length_most, ap (longest c) own), sym a.1)

  -- ---- the writer

  module _ (R : List ℕ) where
    same_write : write_answer c P R ≡ write_answer_then c s P R
    unfolding write_checks
    same_write =
        ap (λ (σ : Shape). answer (write_checks c σ P R) 0) own
        ∙ ap
        (λ (t : Bool).
        answer
        (refuse (not (eqb (length P) s.size)) 1 0
        ∷ refuse (not (eqb (state P) c.over)) 5 0
        ∷ refuse t 6 0
        ∷ refuse_word c.takes ws
        ∷ refuse (ltb (room_for c s P R) (8 * length R)) 8 (room_for c s P R)
        ∷ [])
        0)
        (bad_same 0 s.words P (omega arith))

    -- a record that is taken has a length below 256
    same_page : write_leaves c P R ≡ write_leaves_then c s P R
    unfolding written_of
    same_page =
        ap₂ (λ (a : Answer) (σ : Shape). after a P (written_of c σ P R)) same_write own
        ∙ after_same (write_answer_then c s P R) P (written_of c s P R) _
        (λ v e.
        let a = ((writer_of c).accepted P R v b).0 (same_write ∙ e) in
        let words = Words-page_words P s.words (omega (arith, l, words_inside f)) in
        let room : room_for c s P R ≤ c.most * s.words = rw (length_page_words P s.words) at (laws.at_most ws (bits R) words) in
        let fits : 8 * length R ≤ room_for c s P R = rw own at a.1 in
        ap (λ (q : List ℕ). put_words q (c.put ws (bits R))) (header_then P c.into (length R) (omega (arith, l, f.inside)) a.0.byte2_zero (omega arith)))

lengths_of : {c : Code} → CodeLaws c → {s : Shape} → Sound s → longest c s < 256 → LengthsOf c s
lengths_of laws f few = record {
  byte2_zero = λ P out n l b. byte2_zero laws f few P l b out n;
  same_read = λ P out l b. same_read laws f few P l b out;
  same_output = λ P out l b. same_output laws f few P l b out;
  same_write = λ P R l b. same_write laws f few P l b R;
  same_page = λ P R l b. same_page laws f few P l b R;
}

pub lengths_of_then : LengthsOfThen
lengths_of_then = record {
  with_fill = lengths_of fill_laws sound256 (omega arith);
  with_fill_512 = lengths_of fill_laws sound512 (omega arith);
  inspect = lengths_of inspect_laws sound256 (omega arith);
}
