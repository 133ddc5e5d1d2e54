-- Just when the writer and the reader of a code accept, and when they refuse by each number, over any code and any shape of page. No law of the
-- code is asked for, but that the words which 7 judges are as many as the page has.
-- Assumes nothing.
use mathlib.Core.Bool.{Bool, false, ◌||◌}
use mathlib.Core.List.{List, []}
use mathlib.Core.Logic.Iff
use mathlib.Core.Logic.{◌↔◌, ◌⊎◌}
use mathlib.Core.Path.{◌≡◌, refl, sym, ◌∙◌, subst}
use Prim.Native.Nat.{ℕ, ◌*◌, ◌≤◌, ◌<◌}
use native.Mathlib.Omega.{arith}
use lib.Dec.{T, ltb}
use lib.ListN.{length}
use Rattle.cells.specs.Bytes.{Bytes, zeros, at_start}
use Rattle.answer.specs.Answer.{Answer, result, refusal, answer, after, numbers, among}
use Rattle.answer.proofs.Chains.{still_refused}
use Rattle.answer.proofs.Tells.{Tells, less, itself, either, just, later, taken, nothing_left, flat3}
use Rattle.window.specs.Words.{page_words}
use Rattle.window.proofs.Words.{length_page_words}
use Rattle.rows.specs.declared.shape.Shape.{Shape}
use Rattle.rows.specs.Page.{shape_of, state, tail, record_length, bad_header}
use Rattle.rows.specs.Code.{Code, longest, room_for, written_of, found_of, judged_of, spare_of, record_of, ReadyOf, AllJudgedOf, SecondRoundOf}
use Rattle.rows.proofs.Headers.{header_tells}
use Rattle.page.specs.Terms.{SizedOf, RecordHeaderOf, TailSetOf, LowestBad, RefusalsOf}
use Rattle.page.specs.Answer.{header_checks, state_checks, write_checks, record_checks, read_checks}
use Rattle.page.proofs.Headed.{AllPass, headed_1, headed_5, headed_6, headed_later, headed_taken, word_7, word_later, word_taken, state_refusals, state_later, state_taken}

-- ---- the writer

module _ (c : Code) (s : Shape) (P R : List ℕ) where
  abbrev room : ℕ
  room = room_for c s P R

  no_room : Tells (ltb room (8 * length R)) (room < 8 * length R) (8 * length R ≤ room)
  no_room = less room (8 * length R)

  pub write_taken : (v : ℕ) → Bytes P → (answer (write_checks c s P R) 0 ≡ result v) ↔ (ReadyOf c s P × (8 * length R ≤ room) × (v ≡ 0))
  unfolding write_checks
  write_taken v b = Iff.trans (state_taken c.over c.takes s P _ 0 v b (taken no_room 8 room _ 0 v (nothing_left 0 v))) flat3

  pub write_1567 : RefusalsOf c.over c.takes s P (answer (write_checks c s P R) 0)
  unfolding write_checks numbers among
  write_1567 = state_refusals c.over c.takes s P _ 0 (refl, refl, refl, refl)

  pub write_8 : (k : ℕ) → Bytes P → (answer {A = ℕ} (write_checks c s P R) 0 ≡ refusal 8 k) ↔ (ReadyOf c s P × (k ≡ room) × (k < 8 * length R))
  unfolding write_checks numbers among
  write_8 k b =
      Iff.trans (state_later c.over c.takes s P _ 0 8 k b (omega arith) (just no_room 8 room _ 0 refl k))
      (λ h. (h.0, h.1.1, omega (arith, h.1)), λ h. (h.0, (omega (arith, h.1, h.2), h.1)))

  -- what the check of its page refuses, the writer refuses
  pub write_refused : (x n i : ℕ) → answer (state_checks c.over c.takes s P) x ≡ refusal n i → answer {A = ℕ} (write_checks c s P R) 0 ≡ refusal n i
  unfolding write_checks
  write_refused x n i e = still_refused (state_checks c.over c.takes s P) _ x 0 n i e

-- ---- the reader

module _ (c : Code) (s : Shape) (P : List ℕ) where
  -- what 1, 5 and 6 ask for, together
  record_whole : (SizedOf s P × (state P ≡ c.into) × ((record_length P ≤ longest c s) × T (zeros (tail s.words P)))) ↔ RecordHeaderOf c s P
  record_whole = (λ h. (h.0, h.1, h.2.0, h.2.1), λ h. (h.0, h.1, (h.2, h.3)))

  -- its length, state and header have passed
  pub record_passed : ◌≡◌ {A = Answer} (result 0) (answer (header_checks c.into (longest c s) s P) 0) → RecordHeaderOf c s P
  record_passed e = ((headed_taken s P c.into (header_tells s.words P (longest c s)) record_whole [] 0 0 (nothing_left 0 0)).0 (sym e)).0

  -- ... and all words, bits and spare cells
  pub second_passed : Bytes P → RecordHeaderOf c s P → AllJudgedOf c s P → 8 * record_length P ≤ length (found_of c s P) → spare_of c s P ≡ false
      → SecondRoundOf c s P
  second_passed b h w m z = record {
    sized = h.0;
    of_bytes = b;
    in_state = h.1;
    length_most = h.2;
    tail_zero = h.3;
    words_pass = w;
    bits_enough = m;
    spare_zero = z;
  }

module _ (c : Code) (same : (n : ℕ) (ws : List (List Bool)) → length (c.judged n ws) ≡ length ws) (s : Shape) (P out : List ℕ) where
  abbrev n : ℕ
  n = record_length P

  abbrev judged : List (List Bool)
  judged = judged_of c s P

  abbrev found : List Bool
  found = found_of c s P

  pub length_judged : length judged ≡ s.words
  length_judged = same (8 * n) (page_words P s.words) ∙ length_page_words P s.words

  header : Tells (bad_header (longest c s) s.words P) ((longest c s < n) ⊎ TailSetOf s P)
      ((n ≤ longest c s) × T (zeros (tail s.words P)))
  header = header_tells s.words P (longest c s)

  too_few : Tells (ltb (length found) (8 * n) || spare_of c s P) ((length found < 8 * n) ⊎ T (spare_of c s P))
      ((8 * n ≤ length found) × (spare_of c s P ≡ false))
  too_few = either (less (length found) (8 * n)) (itself (spare_of c s P))

  short : Tells (ltb (length out) n) (length out < n) (n ≤ length out)
  short = less (length out) n

  all_judged : AllPass c.passes judged ↔ AllJudgedOf c s P
  all_judged = (λ h j k. h j (omega (arith, length_judged)), λ h j k. h j (omega (arith, length_judged)))

  -- its length, header, words and bits together
  second_parts : {X : Type 0} → Bytes P
      → (RecordHeaderOf c s P × (AllPass c.passes judged × (((8 * n ≤ length found) × (spare_of c s P ≡ false)) × X))) ↔ (SecondRoundOf c s P × X)
  second_parts b = (
    λ h. (second_passed c s P b h.0 (all_judged.0 h.1.0) h.1.1.0.0 h.1.1.0.1, h.1.1.1),
    λ h.
        let f = h.0 in
        ((f.sized, f.in_state, f.length_most, f.tail_zero), (all_judged.1 f.words_pass, ((f.bits_enough, f.spare_zero), h.1))),
  )

  pub read_taken : (v : ℕ) → Bytes P → (answer (read_checks c s P out) n ≡ result v) ↔ (SecondRoundOf c s P × (n ≤ length out) × (v ≡ n))
  unfolding read_checks record_checks
  read_taken v b =
      Iff.trans
      (headed_taken s P c.into header (record_whole c s P) _ n v (word_taken c.passes judged _ n v (taken too_few 9 0 _ n v (taken short 3 0 _ n v (nothing_left n v)))))
      (Iff.trans (second_parts b) flat3)

  pub read_1 : (i : ℕ) → (answer {A = ℕ} (read_checks c s P out) n ≡ refusal 1 i) ↔ (¬ SizedOf s P × (i ≡ 0))
  unfolding read_checks record_checks numbers among
  read_1 = headed_1 s P c.into header (record_whole c s P) _ n refl

  pub read_5 : (i : ℕ) → (answer {A = ℕ} (read_checks c s P out) n ≡ refusal 5 i) ↔ (SizedOf s P × ¬ (state P ≡ c.into) × (i ≡ 0))
  unfolding read_checks record_checks numbers among
  read_5 = headed_5 s P c.into header (record_whole c s P) _ n refl

  pub read_6 : (i : ℕ) → (answer {A = ℕ} (read_checks c s P out) n ≡ refusal 6 i)
      ↔ (SizedOf s P × (state P ≡ c.into) × ((longest c s < n) ⊎ TailSetOf s P) × (i ≡ 0))
  unfolding read_checks record_checks numbers among
  read_6 = headed_6 s P c.into header (record_whole c s P) _ n refl

  pub read_7 : (i : ℕ) → (answer {A = ℕ} (read_checks c s P out) n ≡ refusal 7 i) ↔ (RecordHeaderOf c s P × LowestBad c.passes judged i)
  unfolding read_checks record_checks numbers among
  read_7 i = headed_later s P c.into header (record_whole c s P) _ n 7 i (omega arith) (word_7 c.passes judged _ n refl i)

  pub read_9 : (i : ℕ) → (answer {A = ℕ} (read_checks c s P out) n ≡ refusal 9 i)
      ↔ (RecordHeaderOf c s P × AllJudgedOf c s P × ((length found < 8 * n) ⊎ T (spare_of c s P)) × (i ≡ 0))
  unfolding read_checks record_checks numbers among
  read_9 i =
      Iff.trans
      (headed_later s P c.into header (record_whole c s P) _ n 9 i (omega arith) (word_later c.passes judged _ n 9 i (λ e. omega arith) (just too_few 9 0 _ n refl i)))
      (λ h. (h.0, all_judged.0 h.1.0, h.1.1.0, h.1.1.1), λ h. (h.0, (all_judged.1 h.1, (h.2, h.3))))

  pub read_3 : (i : ℕ) → Bytes P → (answer {A = ℕ} (read_checks c s P out) n ≡ refusal 3 i) ↔ (SecondRoundOf c s P × (length out < n) × (i ≡ 0))
  unfolding read_checks record_checks numbers among
  read_3 i b =
      Iff.trans
      (headed_later s P c.into header (record_whole c s P) _ n 3 i (omega arith)
      (word_later c.passes judged _ n 3 i (λ e. omega arith) (later too_few 9 0 _ n 3 i (λ e. omega arith) (just short 3 0 _ n refl i))))
      (Iff.trans (second_parts b) flat3)

-- ---- what an operation gives by a shape that it found, and by the page's own

-- the answer and what the page, or the output, holds afterwards are right by a shape
abbrev pub WriteRight : Code → List ℕ → List ℕ → Answer → List ℕ → Shape → Type 0
WriteRight c P R a Q s = (a ≡ answer (write_checks c s P R) 0) × (Q ≡ after {A = ℕ} (answer (write_checks c s P R) 0) P (written_of c s P R))

abbrev pub ReadRight : Code → List ℕ → List ℕ → Answer → List ℕ → Shape → Type 0
ReadRight c P out a Q s =
    (a ≡ answer (read_checks c s P out) (record_length P))
    × (Q ≡ after (answer (read_checks c s P out) (record_length P)) out (at_start (record_of c s P) out))

pub write_held : (c : Code) (P R : List ℕ) (a : Answer) (Q : List ℕ) (s : Shape) → s ≡ shape_of P → WriteRight c P R a Q s → WriteRight c P R a Q (shape_of P)
write_held c P R a Q s e r = subst (WriteRight c P R a Q) e r

pub read_held : (c : Code) (P out : List ℕ) (a : Answer) (Q : List ℕ) (s : Shape) → s ≡ shape_of P → ReadRight c P out a Q s → ReadRight c P out a Q (shape_of P)
read_held c P out a Q s e r = subst (ReadRight c P out a Q) e r
