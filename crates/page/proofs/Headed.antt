-- The checks that the rounds share, before others: of the length, the state and the header, and of the words of a row.
-- Assumes nothing.
use mathlib.Core.Bool.{Bool, false, not}
use mathlib.Core.List.{List, [], ◌∷◌, ◌++◌}
use mathlib.Core.Logic.Iff
use mathlib.Core.Logic.{◌↔◌}
use mathlib.Core.Path.{◌≡◌, sym, ap, ◌∙◌, subst}
use Prim.Native.Nat.{ℕ, suc, ◌≤◌, ◌<◌}
use native.Mathlib.Nat.{lt_of_not-le}
use native.Mathlib.Omega.{arith}
use borrow.Author.Tests.{ltb-true, ltb-false}
use lib.Dec.{T, eqb, ltb}
use lib.ListN.{length, get_or}
use Rattle.cells.specs.Bytes.{Bytes, zeros}
use Rattle.answer.specs.Answer.{Answer, result, refusal, Check, refuse, answer, numbers, among}
use Rattle.answer.proofs.Tells.{Tells, unequal, just, later, taken, nothing_left, flat3, flat4}
use Rattle.window.specs.Words.{page_words}
use Rattle.window.proofs.Words.{length_page_words, get_d_page_words}
use Rattle.rows.specs.declared.shape.Shape.{Shape}
use Rattle.rows.specs.Page.{state, byte1, byte2, tail, lowest, OpenOf}
use Rattle.rows.proofs.Headers.{empty_tells}
use Rattle.rows.proofs.Lowest.{lowest_le, lowest_all, passed_before, failed_there}
use Rattle.rows.proofs.Scanning.{Passed, scan_passed, all_passed}
use Rattle.page.specs.Terms.{SizedOf, HeaderOf, LowestBad, RefusalsOf}
use Rattle.page.specs.Answer.{header_checks, refuse_word, state_checks}

-- ---- 1, 5 for a state other than k, 6 by a test r, then other checks

pub not_sized : (s : Shape) (P : List ℕ) → Tells (not (eqb (length P) s.size)) (¬ SizedOf s P) (SizedOf s P)
not_sized s P = unequal (length P) s.size

-- the conditions of these three, then another
headed_parts : {A B C H X : Type 0} → (A × B × C) ↔ H → (A × (B × (C × X))) ↔ (H × X)
headed_parts w = (
  λ h. (w.0 (h.0, h.1.0, h.1.1.0), h.1.1.1),
  λ h. let g = w.1 h.0 in (g.0, (g.1, (g.2, h.1))),
)

module _ (s : Shape) (P : List ℕ) (k : ℕ) {r : Bool} {E F H : Type 0} (u : Tells r E F) (w : (SizedOf s P × (state P ≡ k) × F) ↔ H)
    (cs : List Check) (x : ℕ) where
  other_state : Tells (not (eqb (state P) k)) (¬ (state P ≡ k)) (state P ≡ k)
  other_state = unequal (state P) k

  abbrev pub headed : List Check
  headed = refuse (not (eqb (length P) s.size)) 1 0 ∷ refuse (not (eqb (state P) k)) 5 0 ∷ refuse r 6 0 ∷ cs

  pub headed_1 : among 1 (numbers cs) ≡ false → (i : ℕ) → (answer headed x ≡ refusal 1 i) ↔ (¬ SizedOf s P × (i ≡ 0))
  unfolding numbers among
  headed_1 f i = just (not_sized s P) 1 0 _ x f i

  pub headed_5 : among 5 (numbers cs) ≡ false → (i : ℕ) → (answer headed x ≡ refusal 5 i) ↔ (SizedOf s P × ¬ (state P ≡ k) × (i ≡ 0))
  unfolding numbers among
  headed_5 f i = Iff.trans (later (not_sized s P) 1 0 _ x 5 i (λ e. omega arith) (just other_state 5 0 _ x f i)) flat3

  pub headed_6 : among 6 (numbers cs) ≡ false → (i : ℕ) → (answer headed x ≡ refusal 6 i) ↔ (SizedOf s P × (state P ≡ k) × E × (i ≡ 0))
  unfolding numbers among
  headed_6 f i =
      Iff.trans
      (later (not_sized s P) 1 0 _ x 6 i (λ e. omega arith)
      (Iff.trans (later other_state 5 0 _ x 6 i (λ e. omega arith) (just u 6 0 _ x f i)) flat3))
      flat4

  -- a later number, and a result
  pub headed_later : {X : Type 0} (n i : ℕ) → ¬ (1 ≡ n) × ¬ (5 ≡ n) × ¬ (6 ≡ n) → (answer cs x ≡ refusal n i) ↔ X
      → (answer headed x ≡ refusal n i) ↔ (H × X)
  headed_later n i d e =
      Iff.trans
      (later (not_sized s P) 1 0 _ x n i d.0 (later other_state 5 0 _ x n i d.1 (later u 6 0 _ x n i d.2 e)))
      (headed_parts w)

  pub headed_taken : {X : Type 0} (v : ℕ) → (answer cs x ≡ result v) ↔ X → (answer headed x ≡ result v) ↔ (H × X)
  headed_taken v e =
      Iff.trans
      (taken (not_sized s P) 1 0 _ x v (taken other_state 5 0 _ x v (taken u 6 0 _ x v e)))
      (headed_parts w)

-- ---- 7 by a test of the words of a row, then other checks

module _ (test : List Bool → Bool) (ws : List (List Bool)) where
  abbrev pub AllPass : Type 0
  AllPass = (j : ℕ) → j < length ws → T (test (get_or ws j []))

  bad_word : Tells (ltb (lowest test ws) (length ws)) (lowest test ws < length ws) AllPass
  bad_word = record {
    if_holds = ltb-true (lowest test ws) (length ws);
    if_not = λ e j h. passed_before test ws j (omega (arith, ltb-false (lowest test ws) (length ws) e));
    apart = λ h k. omega (arith, lowest_all test ws k);
  }

  -- the lowest index of a word that fails
  pub row_bad : (i : ℕ) → ((lowest test ws < length ws) × (i ≡ lowest test ws)) ↔ LowestBad test ws i
  row_bad i = (
    λ h. (
      omega arith,
      ap (λ (k : ℕ). test (get_or ws k [])) h.1 ∙ failed_there test ws h.0,
      λ j k. passed_before test ws j (omega arith),
    ),
    λ h.
        let low : lowest test ws < suc i = lt_of_not-le (λ g. subst T h.1 (passed_before test ws i (omega arith))) in
        let high : i < suc (lowest test ws) =
        lt_of_not-le (λ g. subst T (failed_there test ws (omega arith)) (h.2 (lowest test ws) (omega arith))) in
        (omega arith, omega arith),
  )

  module _ (cs : List Check) (x : ℕ) where
    pub word_7 : among 7 (numbers cs) ≡ false → (i : ℕ) → (answer (refuse_word test ws ∷ cs) x ≡ refusal 7 i) ↔ LowestBad test ws i
    word_7 f i = Iff.trans (just bad_word 7 (lowest test ws) cs x f i) (row_bad i)

    pub word_later : {X : Type 0} (n i : ℕ) → ¬ (7 ≡ n) → (answer cs x ≡ refusal n i) ↔ X
        → (answer (refuse_word test ws ∷ cs) x ≡ refusal n i) ↔ (AllPass × X)
    word_later n i d e = later bad_word 7 (lowest test ws) cs x n i d e

    pub word_taken : {X : Type 0} (v : ℕ) → (answer cs x ≡ result v) ↔ X
        → (answer (refuse_word test ws ∷ cs) x ≡ result v) ↔ (AllPass × X)
    word_taken v e = taken bad_word 7 (lowest test ws) cs x v e

-- ---- the n words of a page, as the loops over them ask it, and as they tell it

module _ (n : ℕ) (test : List Bool → Bool) (P : List ℕ) where
  abbrev words : List (List Bool)
  words = page_words P n

  pub lowest_bad : (i : ℕ) → i ≡ lowest test words → i < n → LowestBad test words i
  lowest_bad i e h = (row_bad test words i).0 (omega (arith, length_page_words P n), e)

  pub all_words : Passed test P n → lowest test words ≡ n
  all_words h = scan_passed test P n h

  pub no_bad_word : (i : ℕ) → i ≡ lowest test words → n ≤ i → Passed test P n
  no_bad_word i e h = all_passed test P n (omega (arith, lowest_le test words, length_page_words P n))

-- ---- all four, of a page in state k without a second record, then other checks

module _ (k : ℕ) (s : Shape) (P : List ℕ) where
  -- what the first three ask for, together
  header_whole : (SizedOf s P × (state P ≡ k) × ((byte1 P ≡ 0) × ((byte2 P ≡ 0) × T (zeros (tail s.words P))))) ↔ HeaderOf k s P
  header_whole = (λ h. (h.0, h.1, h.2.0, h.2.1.0, h.2.1.1), λ h. (h.0, h.1, (h.2, (h.3, h.4))))

  -- they have passed
  pub header_passed : ◌≡◌ {A = Answer} (result 0) (answer (header_checks k 0 s P) 0) → HeaderOf k s P
  header_passed e = ((headed_taken s P k (empty_tells s.words P) (header_whole) [] 0 0 (nothing_left 0 0)).0 (sym e)).0

  -- ... and all words
  pub opened : (test : List Bool → Bool) → Bytes P → HeaderOf k s P → Passed test P s.words → OpenOf k test s P
  opened test b h w = record { sized = h.0; of_bytes = b; in_state = h.1; byte1_zero = h.2; byte2_zero = h.3; tail_zero = h.4; words_pass = w }

module _ (k : ℕ) (test : List Bool → Bool) (s : Shape) (P : List ℕ) (cs : List Check) (x : ℕ) where
  -- the refusals that the operations on one state share
  pub state_refusals : (among 1 (numbers cs) ≡ false) × (among 5 (numbers cs) ≡ false) × (among 6 (numbers cs) ≡ false) × (among 7 (numbers cs) ≡ false)
      → RefusalsOf k test s P (answer (state_checks k test s P ++ cs) x)
  unfolding numbers among
  state_refusals f = record {
    one = headed_1 s P k (empty_tells s.words P) (header_whole k s P) _ x f.0;
    five = headed_5 s P k (empty_tells s.words P) (header_whole k s P) _ x f.1;
    six = headed_6 s P k (empty_tells s.words P) (header_whole k s P) _ x f.2;
    seven = λ i. headed_later s P k (empty_tells s.words P) (header_whole k s P) _ x 7 i (omega arith) (word_7 test (words s.words test P) cs x f.3 i);
  }

  -- its length, header and words together
  open_parts : {X : Type 0} → Bytes P → (HeaderOf k s P × (AllPass test (words s.words test P) × X)) ↔ (OpenOf k test s P × X)
  open_parts b =
      let n = s.words in
      let l = length_page_words P n in (
        λ h. (
          opened k s P test b h.0 (λ i j. subst (λ (w : List Bool). T (test w)) (get_d_page_words P n i j) (h.1.0 i (omega arith))),
          h.1.1,
        ),
        λ h.
            let f = h.0 in (
              (f.sized, f.in_state, f.byte1_zero, f.byte2_zero, f.tail_zero),
              (
                λ i j.
                    let q : i < n = omega arith in
                    subst (λ (w : List Bool). T (test w)) (sym (get_d_page_words P n i q)) (f.words_pass i q),
                h.1,
              ),
            ),
      )

  -- a later number, and a result
  pub state_later : {X : Type 0} (n i : ℕ) → Bytes P → ¬ (1 ≡ n) × ¬ (5 ≡ n) × ¬ (6 ≡ n) × ¬ (7 ≡ n) → (answer cs x ≡ refusal n i) ↔ X
      → (answer (state_checks k test s P ++ cs) x ≡ refusal n i) ↔ (OpenOf k test s P × X)
  state_later n i b d e =
      Iff.trans (headed_later s P k (empty_tells s.words P) (header_whole k s P) _ x n i (d.0, d.1, d.2) (word_later test (words s.words test P) cs x n i d.3 e)) (open_parts b)

  pub state_taken : {X : Type 0} (v : ℕ) → Bytes P → (answer cs x ≡ result v) ↔ X
      → (answer (state_checks k test s P ++ cs) x ≡ result v) ↔ (OpenOf k test s P × X)
  state_taken v b e = Iff.trans (headed_taken s P k (empty_tells s.words P) (header_whole k s P) _ x v (word_taken test (words s.words test P) cs x v e)) (open_parts b)
