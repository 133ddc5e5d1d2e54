-- The words of a page filled one after another: what holds before word i, a turn for it, and the pulses of that. Assumes nothing.
use mathlib.Core.Bool.{Bool, false}
use mathlib.Core.List.{List}
use mathlib.Core.Path.{◌≡◌, sym, ap, ap₂, ◌∙◌}
use Prim.Native.Nat.{ℕ, ◌+◌, ◌*◌, ◌≤◌}
use native.Mathlib.Omega.{arith}
use lib.ListN.{length}
use Rattle.cells.specs.Cells.{pulses}
use Rattle.cells.specs.Bytes.{Bytes}
use Rattle.window.specs.Words.{start, pieces, word_at, page_words, put_word, put_words, Words}
use Rattle.window.proofs.Words.{put_words_none, put_words_more, word_at_put_words, length_page_words, Words-page_words, page_words_more, length_word_at}
use Rattle.word.specs.Fill.{fill, fill_pulses}
use Rattle.word.proofs.Filling.{length_fill}
use Rattle.word.proofs.Pulses.{fill_pulses_le, pulses_filled}
use Rattle.rows.specs.Page.{fill_all}
use Rattle.rows.proofs.SecondWords.{fill_all_more, length_fill_all, Words-fill_all}

module _ (page₀ : List ℕ) where
  -- the words before word i, filled
  abbrev done : ℕ → List (List Bool)
  done i = fill_all (page_words page₀ i)

  length_done : (i : ℕ) → length (done i) ≡ i
  length_done i = length_fill_all (page_words page₀ i) ∙ length_page_words page₀ i

  Words-done : (i : ℕ) → start i ≤ 8 * length page₀ → Words (done i)
  Words-done i h = Words-fill_all (page_words page₀ i) (Words-page_words page₀ i h)

  -- before word i: the words before it are filled, and no other cell has changed
  abbrev pub Filling : List ℕ → ℕ → Type 0
  Filling page i = page ≡ put_words page₀ (done i)

  pub filling_start : Bytes page₀ → Filling page₀ 0
  unfolding fill_all page_words pieces
  filling_start b = sym (put_words_none page₀ b)

  module _ (page : List ℕ) (i : ℕ) (r : Filling page i) (h : start i + 46 ≤ 8 * length page₀) where
    -- word i is still as it was
    filling_word : word_at page i ≡ word_at page₀ i
    filling_word =
        ap (λ (p : List ℕ). word_at p i) r
        ∙ word_at_put_words page₀ (done i) i (Words-done i (omega arith)) (omega (arith, length_done i)) (omega (arith, length_done i))

    -- w is word i, and f is that word filled
    pub filling_turn : (w f : List Bool) (next : List ℕ) → w ≡ word_at page i → f ≡ fill w → next ≡ put_word page i f → Filling next (i + 1)
    filling_turn w f next ew ef en =
        let v = word_at page₀ i in
        let ld = length_done i in
        let e : f ≡ fill v = ef ∙ ap fill (ew ∙ filling_word) in
        let e46 : length (fill v) ≡ 46 = unfold fill in length_fill false v ∙ length_word_at page₀ i h in
        en ∙ ap₂ (λ (p : List ℕ) (u : List Bool). put_word p i u) r e
        ∙ ap (λ (k : ℕ). put_word (put_words page₀ (done i)) k (fill v)) (sym ld)
        ∙ put_words_more page₀ (done i) (fill v) (Words-done i (omega arith)) e46 (omega (arith, ld))
        ∙ ap (put_words page₀) (sym (ap fill_all (page_words_more page₀ i) ∙ fill_all_more (page_words page₀ i) v))

    -- ... and p the pulses of that
    pub pulses_turn : (w f : List Bool) (p : ℕ) → w ≡ word_at page i → f ≡ fill w → p ≡ pulses w f → (p ≡ fill_pulses (word_at page₀ i)) × (p ≤ 46)
    pulses_turn w f p ew ef ep =
        let v = word_at page₀ i in
        let e : p ≡ fill_pulses v = ep ∙ pulses_filled w f ef ∙ ap fill_pulses (ew ∙ filling_word) in
        (e, omega (arith, e, fill_pulses_le v, length_word_at page₀ i h))
