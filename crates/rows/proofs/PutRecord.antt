-- A record's bits put into the words of a page, one after another: what holds before word i, and a turn for it. Assumes nothing.
use mathlib.Core.Bool.{Bool, false}
use mathlib.Core.List.{List, [], ◌∷◌, ◌++◌}
use mathlib.Core.Path.{◌≡◌, sym, ap, ap₂, ◌∙◌}
use Prim.Native.Nat.{ℕ, ◌+◌, ◌*◌, ◌^◌, ◌≤◌, ◌<◌}
use native.Mathlib.Omega.{arith}
use lib.ListN.{length, drop}
use Rattle.cells.specs.Cells.{cells, fit}
use Rattle.cells.specs.Bytes.{bits, Bytes}
use Rattle.cells.proofs.Tests.{is_true}
use Rattle.window.specs.Words.{start, pieces, word_at, page_words, put_word, put_words, Words}
use Rattle.window.proofs.Words.{put_words_none, put_words_more, word_at_put_words, length_page_words, Words-page_words, page_words_more, length_word_at}
use Rattle.word.specs.Fill.{read, put, is_filled}
use Rattle.word.proofs.SecondBits.{length_put, put_fit}
use Rattle.rows.specs.Page.{lowest, read_all, put_all}
use Rattle.rows.proofs.SecondWords.{put_all_more, length_put_all, Words-put_all}
use Rattle.rows.proofs.Scanning.{all_passed}
use Rattle.rows.proofs.Loaded.{OwnSeparators, own_separators}
use Rattle.rows.proofs.Counting.{Counting, counting_start, counting_turn}

-- the word that `put_bits` gives is the word with the record's bits from bit `at` on put into its data cells
put_next : (w l r : List Bool) (b n at : ℕ) → n ≡ length (read w) → cells n b ≡ fit n (drop at l) → r ≡ put w (cells (length (read w)) b)
    → r ≡ put w (drop at l)
unfolding put read
put_next w l r b n at en eb er =
    er ∙ ap (λ (k : ℕ). put w (cells k b)) (sym en) ∙ ap (put w) (eb ∙ ap (λ (k : ℕ). fit k (drop at l)) en) ∙ put_fit false w (drop at l)

module _ (page₀ second : List ℕ) where
  -- the words before word i with the record's bits
  abbrev done : ℕ → List (List Bool)
  done i = put_all (page_words page₀ i) (bits second)

  length_done : (i : ℕ) → length (done i) ≡ i
  length_done i = length_put_all (page_words page₀ i) (bits second) ∙ length_page_words page₀ i

  Words-done : (i : ℕ) → start i ≤ 8 * length page₀ → Words (done i)
  Words-done i h = Words-put_all (page_words page₀ i) (bits second) (Words-page_words page₀ i h)

  done_more : (i at : ℕ) → at ≡ length (read_all (page_words page₀ i))
      → done (i + 1) ≡ done i ++ (put (word_at page₀ i) (drop at (bits second)) ∷ [])
  done_more i at e =
      ap (λ (ws : List (List Bool)). put_all ws (bits second)) (page_words_more page₀ i)
      ∙ put_all_more (page_words page₀ i) (word_at page₀ i) (bits second)
      ∙ ap (λ (k : ℕ). done i ++ (put (word_at page₀ i) (drop k (bits second)) ∷ [])) (sym e)

  -- before word i: the words before it are done, no other cell has changed, and the record's bits before bit `at` are in
  pub record Putting (page : List ℕ) (at i : ℕ) : Type 0 where
    pub words_done : page ≡ put_words page₀ (done i)
    pub counted : Counting page₀ at i

  pub putting_start : Bytes page₀ → Putting page₀ 0 0
  putting_start b = record {
    words_done = unfold put_all page_words pieces in sym (put_words_none page₀ b);
    counted = counting_start page₀;
  }

  module _ (page : List ℕ) (at i : ℕ) (r : Putting page at i) (h : start i + 46 ≤ 8 * length page₀) where
    -- word i is still as it was
    putting_word : word_at page i ≡ word_at page₀ i
    putting_word =
        ap (λ (p : List ℕ). word_at p i) r.words_done
        ∙ word_at_put_words page₀ (done i) i (Words-done i (omega arith)) (omega (arith, length_done i)) (omega (arith, length_done i))

    -- the number b has the record's next bits, and v is word i with these put in
    pub putting_turn : (w v : List Bool) (b n : ℕ) (next : List ℕ) → w ≡ word_at page i → OwnSeparators w → n ≡ length (read w)
        → cells n b ≡ fit n (drop at (bits second)) → v ≡ put w (cells (length (read w)) b) → next ≡ put_word page i v → Putting next (at + n) (i + 1)
    putting_turn w v b n next ew o en eb ev ep =
        let x = word_at page₀ i in
        let new = put x (drop at (bits second)) in
        let is : w ≡ x = ew ∙ putting_word in
        let e : v ≡ new = put_next w (bits second) v b n at en eb ev ∙ ap (λ (u : List Bool). put u (drop at (bits second))) is in
        let ld = length_done i in
        let e46 : length new ≡ 46 = unfold put in length_put false x (drop at (bits second)) ∙ length_word_at page₀ i h in
        record {
          words_done =
              ep ∙ ap₂ (λ (p : List ℕ) (u : List Bool). put_word p i u) r.words_done e
              ∙ ap (λ (k : ℕ). put_word (put_words page₀ (done i)) k new) (sym ld)
              ∙ put_words_more page₀ (done i) new (Words-done i (omega arith)) e46 (omega (arith, ld))
              ∙ ap (put_words page₀) (sym (done_more i at r.counted.sum));
          counted = counting_turn page₀ at i n (en ∙ ap (λ (u : List Bool). length (read u)) is) (omega (arith, en, o.most)) r.counted;
        }

  -- word i of n, of which all are filled, is its own separators
  pub putting_own : (page : List ℕ) (at i : ℕ) → Putting page at i → (n : ℕ) (w : List Bool)
      → (start n ≤ 8 * length page₀) × (lowest is_filled (page_words page₀ n) ≡ n) × (n < 2 ^ 16) → i < n → w ≡ word_at page i → OwnSeparators w
  putting_own page at i r n w q h e =
      let is : w ≡ word_at page₀ i = e ∙ putting_word page at i r (omega arith) in
      own_separators w (ap length is ∙ length_word_at page₀ i (omega arith))
      (ap is_filled is ∙ is_true (is_filled (word_at page₀ i)) (all_passed is_filled page₀ n q.1 i h))
