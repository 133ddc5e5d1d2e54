-- Sums over words of a number that each of them has: over one word more, over one word so many times, over legal words, and over the words
-- of a page, one after another. Assumes nothing.
use mathlib.Core.Bool.{Bool}
use mathlib.Core.List.{List, [], ◌∷◌, ◌++◌}
use mathlib.Core.Path.{◌≡◌, refl, ap}
use Prim.Native.Nat.{ℕ, zero, suc, ◌+◌, ◌*◌, ◌≤◌}
use native.Mathlib.Nat.{suc-mul}
use native.Mathlib.Omega.{arith}
use lib.ListN.{length, replicate}
use Rattle.window.specs.Words.{word_at, pieces, page_words, Words}
use Rattle.window.proofs.Words.{page_words_more}
use Rattle.word.specs.Word.{legal}
use Rattle.word.specs.Claims.{Legal}
use Rattle.word.proofs.Claims.{capacity_bounds}
use Rattle.rows.specs.Page.{sum_over, capacity_all}
use Rattle.rows.proofs.EachWord.{Each}

module _ (count : List Bool → ℕ) where
  sum_over_more : (ws : List (List Bool)) (w : List Bool) → sum_over count (ws ++ (w ∷ [])) ≡ sum_over count ws + count w
  unfolding sum_over
  sum_over_more [] w = omega arith
  sum_over_more (v ∷ ws) w = omega (arith, sum_over_more ws w)

  pub sum_over_replicate : (n : ℕ) (w : List Bool) → sum_over count (replicate n w) ≡ n * count w
  unfolding sum_over
  sum_over_replicate zero w = omega arith
  sum_over_replicate (suc n) w = omega (arith, sum_over_replicate n w, suc-mul n (count w))

  -- from a least and a greatest number of a legal word
  pub sum_over_bounds : (least most : ℕ) → ((w : List Bool) → Legal w → (least ≤ count w) × (count w ≤ most))
      → (ws : List (List Bool)) → Words ws → Each legal ws → (length ws * least ≤ sum_over count ws) × (sum_over count ws ≤ length ws * most)
  unfolding sum_over
  sum_over_bounds least most b [] h t = (omega arith, omega arith)
  sum_over_bounds least most b (w ∷ ws) h t =
      omega (
        arith,
        b w (h.0, t.0),
        sum_over_bounds least most b ws h.1 t.1,
        suc-mul (length ws) least,
        suc-mul (length ws) most,
      )

  -- ---- the words of a page, of which each has at most so many

  module _ (most : ℕ) (page : List ℕ) where
    -- `total` is the sum over the words before word i
    pub record Summing (total i : ℕ) : Type 0 where
      pub few : total ≤ i * most
      pub sum : total ≡ sum_over count (page_words page i)

    pub summing_start : Summing 0 0
    summing_start = record { few = omega arith; sum = unfold sum_over page_words pieces in refl }

    pub summing_turn : (total i n : ℕ) → n ≡ count (word_at page i) → n ≤ most → Summing total i → Summing (total + n) (i + 1)
    summing_turn total i n e h m = record {
      few = omega (arith, m.few, suc-mul i most);
      sum = omega (arith, m.sum, e, sum_over_more (page_words page i) (word_at page i), ap (sum_over count) (page_words_more page i));
    }

-- the capacity of n legal words lies between 15 n and 23 n
pub capacity_bounds_all : (ws : List (List Bool)) → Words ws → Each legal ws
    → (15 * length ws ≤ capacity_all ws) × (capacity_all ws ≤ 23 * length ws)
capacity_bounds_all ws h t = omega (arith, sum_over_bounds _ 15 23 (λ w l. (capacity_bounds.least w l, capacity_bounds.greatest w l)) ws h t)
