-- The state that fill page sets before it fills the words: these are the page's own. Assumes nothing.
use mathlib.Core.Bool.{Bool}
use mathlib.Core.List.{List}
use mathlib.Core.Path.{◌≡◌, ap, ap₂}
use Prim.Native.Nat.{ℕ, ◌<◌}
use native.Mathlib.Omega.{arith}
use lib.ListN.{length, set}
use lib.Seq.{set_split}
use Rattle.window.specs.Words.{page_words, put_words}
use Rattle.window.proofs.Words.{page_words_set}
use Rattle.rows.specs.declared.shape.Shape.{Shape}
use Rattle.rows.specs.Page.{fill_all, pulses_all, filled_page}
use Rattle.filled.specs.Answer.{pulses_of}

pub pulses_set : (s : Shape) (P : List ℕ) → pulses_all (page_words (set P 0 3) s.words) ≡ pulses_of s P
pulses_set s P = ap pulses_all (page_words_set P 0 3 s.words (omega arith))

pub filled_set : (s : Shape) (P : List ℕ) → 0 < length P → put_words (set P 0 3) (fill_all (page_words (set P 0 3) s.words)) ≡ filled_page s P
unfolding filled_page
filled_set s P h =
    ap₂ (λ (p : List ℕ) (ws : List (List Bool)). put_words p (fill_all ws)) (set_split P 0 3 h) (page_words_set P 0 3 s.words (omega arith))
