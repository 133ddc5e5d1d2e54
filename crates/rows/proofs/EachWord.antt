-- Rows of words: a test that every word of a row passes, also by index and for the words of a page, and rows of n words of 46 cells.
-- Assumes nothing.
use mathlib.Core.Bool.{Bool}
use mathlib.Core.List.{List, [], ◌∷◌}
use mathlib.Core.Path.{◌≡◌, ap}
use Prim.Native.Nat.{ℕ, zero, suc, ◌*◌, ◌≤◌, ◌<◌}
use native.Mathlib.Omega.{arith}
use lib.Dec.{T}
use lib.ListN.{length, get_or, replicate, length-replicate}
use Rattle.window.specs.Words.{start, word_at, page_words, Words}
use Rattle.window.proofs.Words.{length_page_words, Words-page_words, get_d_page_words}
use Rattle.word.specs.Word.{sparse, legal}
use Rattle.word.proofs.Sums.{legal_parts}

-- ---- a test of every word

abbrev pub Each : (List Bool → Bool) → List (List Bool) → Type 0
Each test [] = Unit {0}
Each test (w ∷ ws) = T (test w) × Each test ws

pub each_sparse : (ws : List (List Bool)) → Each legal ws → Each sparse ws
each_sparse [] h = tt
each_sparse (w ∷ ws) h = ((legal_parts w h.0).0, each_sparse ws h.1)

module _ (test : List Bool → Bool) where
  pub each_replicate : (n : ℕ) (w : List Bool) → T (test w) → Each test (replicate n w)
  each_replicate zero w h = tt
  each_replicate (suc n) w h = (h, each_replicate n w h)

  pub each_from : (ws : List (List Bool)) → ((i : ℕ) → i < length ws → T (test (get_or ws i []))) → Each test ws
  each_from [] h = tt
  each_from (w ∷ ws) h = (h 0 (omega arith), each_from ws (λ i k. h (suc i) (omega arith)))

  pub each_at : (ws : List (List Bool)) → Each test ws → (i : ℕ) → i < length ws → T (test (get_or ws i []))
  each_at [] h i k = absurd (omega arith)
  each_at (w ∷ ws) h zero k = h.0
  each_at (w ∷ ws) h (suc i) k = each_at ws h.1 i (omega arith)

  -- the words of a page
  pub each_word : (page : List ℕ) (n : ℕ) → ((i : ℕ) → i < n → T (test (word_at page i))) → Each test (page_words page n)
  each_word page n h =
      let l = length_page_words page n in
      each_from (page_words page n) (λ i k. let j : i < n = omega arith in rw (get_d_page_words page n i j) (h i j))

  pub word_each : (page : List ℕ) (n : ℕ) (ws : List (List Bool)) → page_words page n ≡ ws → Each test ws
      → (i : ℕ) → i < n → T (test (word_at page i))
  word_each page n ws e h i k =
      rw (← get_d_page_words page n i k, e) (each_at ws h i (omega (arith, length_page_words page n, ap length e)))

-- ---- n words of 46 cells

abbrev pub Row : ℕ → List (List Bool) → Type 0
Row n ws = (length ws ≡ n) × Words ws

pub row_page : (page : List ℕ) (n : ℕ) → start n ≤ 8 * length page → Row n (page_words page n)
row_page page n h = (length_page_words page n, Words-page_words page n h)

pub row_replicate : (n : ℕ) (w : List Bool) → length w ≡ 46 → Row n (replicate n w)
row_replicate n w e = (length-replicate n w, words n)
  where
    words : (k : ℕ) → Words (replicate k w)
    words zero = tt
    words (suc k) = (e, words k)
