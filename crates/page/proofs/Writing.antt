-- What write first knows of a page: blank or not, and the state set before the words. Assumes nothing.
use mathlib.Core.Bool.{Bool, true, false, not}
use mathlib.Core.List.{List}
use mathlib.Core.Path.{◌≡◌, sym, ap, ◌∙◌}
use Prim.Native.Nat.{ℕ, ◌<◌}
use lib.ListN.{length, set}
use lib.Seq.{set_split}
use Rattle.cells.specs.Bytes.{zeros}
use Rattle.window.specs.Words.{put_words}
use Rattle.rows.specs.declared.shape.Shape.{Shape}
use Rattle.rows.specs.Page.{blank_of, first_words, first_page}
use Rattle.rows.proofs.Blank.{length_blank, not_blank}

-- b tells whether every byte of a page is 0
module _ (P : List ℕ) (n : ℕ) (b : Bool) where
  pub not_blank_page : b ≡ zeros P → not b ≡ true → ¬ (P ≡ blank_of n)
  not_blank_page e t h = (not_blank P).if_holds (sym (ap not e) ∙ t) (h ∙ ap blank_of (sym (ap length h ∙ length_blank n)))

  pub blank_page : length P ≡ n → b ≡ zeros P → not b ≡ false → P ≡ blank_of n
  blank_page l e t = (not_blank P).if_not (sym (ap not e) ∙ t) ∙ ap blank_of l

-- the state is set before the words
pub first_set : (s : Shape) (P bs : List ℕ) → 0 < length P → put_words (set P 0 1) (first_words s.words bs) ≡ first_page s P bs
unfolding first_page
first_set s P bs h = ap (λ (p : List ℕ). put_words p (first_words s.words bs)) (set_split P 0 1 h)
