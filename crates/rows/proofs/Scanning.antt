-- The words of a page tested one after another, up to the first that fails. Assumes nothing.
use mathlib.Core.Bool.{Bool, true, false}
use mathlib.Core.List.{List, [], ◌∷◌}
use mathlib.Core.Logic.{⊎_elim}
use mathlib.Core.Path.{◌≡◌, sym, ap, ◌∙◌, subst}
use Prim.Native.Nat.{ℕ, zero, suc, ◌+◌, ◌≤◌, ◌<◌}
use native.Mathlib.Omega.{arith}
use lib.Dec.{T}
use lib.ListN.{length, get_or}
use Rattle.cells.proofs.Tests.{holds, is_true, lt_cases}
use Rattle.window.specs.Words.{word_at, page_words}
use Rattle.window.proofs.Words.{get_d_page_words, length_page_words}
use Rattle.rows.specs.Page.{lowest}
use Rattle.rows.proofs.Lowest.{lowest_passed, lowest_failed, lowest_all, passed_before}

lowest_is : (test : List Bool → Bool) (ws : List (List Bool)) (i : ℕ) → i < length ws
    → ((j : ℕ) → j < i → T (test (get_or ws j []))) → test (get_or ws i []) ≡ false → lowest test ws ≡ i
lowest_is test [] i h p f = absurd (omega arith)
lowest_is test (w ∷ ws) zero h p f = lowest_failed test w ws f
lowest_is test (w ∷ ws) (suc i) h p f =
    lowest_passed test w ws (is_true (test w) (p 0 (omega arith)))
    ∙ ap suc (lowest_is test ws i (omega arith) (λ j k. p (suc j) (omega arith)) f)

-- the words before word i pass
abbrev pub Passed : (List Bool → Bool) → List ℕ → ℕ → Type 0
Passed test page i = (j : ℕ) → j < i → T (test (word_at page j))

module _ (test : List Bool → Bool) (page : List ℕ) where
  pub passed_none : Passed test page 0
  passed_none j h = absurd (omega arith)

  pub passed_more : (i : ℕ) → Passed test page i → test (word_at page i) ≡ true → Passed test page (i + 1)
  passed_more i p e j h =
      ⊎_elim (λ s. subst (λ (k : ℕ). T (test (word_at page k))) (sym s) (holds (test (word_at page i)) e)) (λ l. p j l)
      (lt_cases {i = j} {n = i} (omega arith))

  by_index : (n i : ℕ) → i ≤ n → Passed test page i → (j : ℕ) → j < i → T (test (get_or (page_words page n) j []))
  by_index n i l p j h = subst (λ (w : List Bool). T (test w)) (sym (get_d_page_words page n j (omega arith))) (p j h)

  pub scan_failed : (n i : ℕ) → i < n → Passed test page i → test (word_at page i) ≡ false → lowest test (page_words page n) ≡ i
  scan_failed n i h p f =
      lowest_is test (page_words page n) i (omega (arith, length_page_words page n)) (by_index n i (omega arith) p)
      (ap test (get_d_page_words page n i h) ∙ f)

  pub scan_passed : (n : ℕ) → Passed test page n → lowest test (page_words page n) ≡ n
  scan_passed n p =
      lowest_all test (page_words page n) (λ j h. by_index n n (omega arith) p j (omega (arith, length_page_words page n)))
      ∙ length_page_words page n

  pub all_passed : (n : ℕ) → lowest test (page_words page n) ≡ n → Passed test page n
  all_passed n e j h =
      subst (λ (w : List Bool). T (test w)) (get_d_page_words page n j h) (passed_before test (page_words page n) j (omega arith))

  -- word i, loaded as w, passes or fails
  pub loaded_passed : (i : ℕ) (w : List Bool) (t : Bool) → Passed test page i → w ≡ word_at page i → t ≡ test w → t ≡ true → Passed test page (i + 1)
  loaded_passed i w t p e et k = passed_more i p (ap test (sym e) ∙ sym et ∙ k)

  pub loaded_failed : (n i : ℕ) (w : List Bool) (t : Bool) → i < n → Passed test page i → w ≡ word_at page i → t ≡ test w → t ≡ false
      → i ≡ lowest test (page_words page n)
  loaded_failed n i w t h p e et f = sym (scan_failed n i h p (ap test (sym e) ∙ sym et ∙ f))

  -- after the last word
  pub scan_end : (n i : ℕ) → i ≡ n → Passed test page i → n ≡ lowest test (page_words page n)
  scan_end n i e p = sym (scan_passed n (subst (Passed test page) e p))
