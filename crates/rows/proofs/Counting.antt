-- The data cells of a page's words counted, one word after another. Assumes nothing.
use mathlib.Core.List.{List}
use mathlib.Core.Path.{◌≡◌, refl, ap, ◌∙◌}
use Prim.Native.Nat.{ℕ, ◌+◌, ◌*◌, ◌≤◌}
use native.Mathlib.Omega.{arith}
use lib.ListN.{length, length-append}
use Rattle.window.specs.Words.{word_at, pieces, page_words}
use Rattle.window.proofs.Words.{page_words_more}
use Rattle.word.specs.Fill.{read}
use Rattle.rows.specs.Page.{read_all}
use Rattle.rows.proofs.SecondWords.{read_all_more}

-- `at` is the number of data cells of the words before word i
pub record Counting (page : List ℕ) (at i : ℕ) : Type 0 where
  pub few : at ≤ 23 * i
  pub sum : at ≡ length (read_all (page_words page i))

module _ (page : List ℕ) where
  pub counting_start : Counting page 0 0
  counting_start = record { few = omega arith; sum = unfold read_all page_words pieces in refl }

  pub counting_turn : (at i n : ℕ) → n ≡ length (read (word_at page i)) → n ≤ 23 → Counting page at i → Counting page (at + n) (i + 1)
  counting_turn at i n e m c =
      let more = ap length (ap read_all (page_words_more page i) ∙ read_all_more (page_words page i) (word_at page i)) in
      record {
        few = omega (arith, c.few);
        sum = omega (arith, c.sum, more, length-append (read_all (page_words page i)) (read (word_at page i)));
      }
