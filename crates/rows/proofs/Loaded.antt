-- Word i of a page, loaded: what is known of it and of the word that the fill makes of it. Assumes nothing.
use mathlib.Core.Bool.{Bool, true, false}
use mathlib.Core.List.{List}
use mathlib.Core.Path.{◌≡◌, sym, ap, ◌∙◌}
use Prim.Native.Nat.{ℕ, ◌+◌, ◌*◌, ◌≤◌, ◌<◌}
use native.Mathlib.Omega.{arith}
use lib.Dec.{T}
use lib.ListN.{length}
use Rattle.cells.specs.Cells.{number}
use Rattle.cells.proofs.Tests.{is_true, holds}
use Rattle.window.specs.Words.{start, word_at, page_words}
use Rattle.window.proofs.Words.{length_word_at}
use Rattle.word.specs.Word.{sparse, legal, legal_word}
use Rattle.word.specs.Fill.{fill, read, capacity, is_filled}
use Rattle.word.proofs.Claims.{one_legal_word, capacity_bounds}
use Rattle.word.proofs.Sums.{legal_parts}
use Rattle.word.proofs.Filling.{fill_apart, capacity_le}
use Rattle.word.proofs.Formed.{filled_sparse}
use Rattle.rows.specs.Page.{lowest}
use Rattle.rows.proofs.Scanning.{all_passed}

-- a word of 46 cells is legal where its number is
pub legal_number : (page : List ℕ) (i : ℕ) (w : List Bool) (b : ℕ) → start i + 46 ≤ 8 * length page → w ≡ word_at page i → b ≡ number w
    → legal_word b ≡ legal (word_at page i)
legal_number page i w b h e eb =
    ap legal_word (eb ∙ ap number e) ∙ one_legal_word.as_number (word_at page i) (length_word_at page i h)

-- word i of n, of which all are legal
pub legal_sparse : (page : List ℕ) (n i : ℕ) (w : List Bool) → lowest legal (page_words page n) ≡ n → i < n → w ≡ word_at page i → sparse w ≡ true
legal_sparse page n i w r h e = ap sparse e ∙ is_true (sparse (word_at page i)) (legal_parts (word_at page i) (all_passed legal page n r i h)).0

-- ... after the fill
pub record FilledWord (page : List ℕ) (i : ℕ) (f : List Bool) : Type 0 where
  pub apart : sparse f ≡ true
  pub count : length (read f) ≡ capacity (word_at page i)
  pub most : capacity (word_at page i) ≤ 23

pub legal_filled : (page : List ℕ) (n i : ℕ) (w f : List Bool) → start i + 46 ≤ 8 * length page → lowest legal (page_words page n) ≡ n → i < n
    → w ≡ word_at page i → f ≡ fill w → FilledWord page i f
unfolding capacity
legal_filled page n i w f h r k e ef =
    let v = word_at page i in
    let l : T (legal v) = all_passed legal page n r i k in
    let g : f ≡ fill v = ef ∙ ap fill e in
    record {
      apart = ap sparse g ∙ is_true (sparse (fill v)) (fill_apart v (legal_parts v l).0);
      count = ap (λ (x : List Bool). length (read x)) g;
      most = capacity_bounds.greatest v (length_word_at page i h, l);
    }

-- a word that is filled: its own separators
pub record OwnSeparators (w : List Bool) : Type 0 where
  pub apart : sparse w ≡ true
  pub most : length (read w) ≤ 23

pub own_separators : (w : List Bool) → length w ≡ 46 → is_filled w ≡ true → OwnSeparators w
unfolding read
own_separators w h e = record {
  apart = is_true (sparse w) (filled_sparse w (holds (is_filled w) e));
  most = omega (arith, capacity_le false w, h);
}

-- ... word i, as a test of it tells
pub tested_own : (page : List ℕ) (i : ℕ) (w : List Bool) (t : Bool) → start i + 46 ≤ 8 * length page → w ≡ word_at page i → t ≡ is_filled w → t ≡ true
    → OwnSeparators w
tested_own page i w t h e et k = own_separators w (ap length e ∙ length_word_at page i h) (sym et ∙ k)
