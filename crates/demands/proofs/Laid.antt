-- A page as its first three bytes, its words and the bytes after them, over any sound shape of page: what such a page holds, that each page
-- is one, and that each writing leaves one.
-- Assumes nothing.
use mathlib.Core.Bool.{Bool}
use mathlib.Core.List.{List, [], ◌∷◌, ◌++◌}
use mathlib.Core.Path.{◌≡◌, refl, sym, ap, ◌∙◌}
use Prim.Native.Nat.{ℕ, ◌+◌, ◌*◌, ◌/◌, ◌%◌, ◌<◌}
use native.Mathlib.Omega.{arith}
use lib.Dec.{T}
use lib.ListN.{length, drop, length-drop}
use lib.Seq.{drop_at, drop-cons, drop-drop}
use Rattle.cells.specs.Bytes.{bits, bytes, Bytes, zeros}
use Rattle.cells.proofs.Bytes.{length_bytes, Bytes-drop, Bytes-three}
use Rattle.window.specs.Words.{join, page_words, put_words, page_of}
use Rattle.window.proofs.Words.{put_words_all, put_words_own, bits_page_of, length_page_of, Bytes-page_of, page_words_page_of}
use Rattle.rows.specs.declared.shape.Shape.{Shape}
use Rattle.rows.specs.Page.{state, byte1, byte2, tail, with_header, first_words, first_page, OpenOf}
use Rattle.rows.proofs.EachWord.{Each, word_each, Row, row_page}
use Rattle.rows.proofs.FirstRecord.{row_first_words}
use Rattle.rows.proofs.Shapes.{word_bytes, Sound}

-- the page of these three bytes, words and last bytes
abbrev pub laid : ℕ → ℕ → ℕ → List (List Bool) → List ℕ → List ℕ
laid a b c ws t = page_of (a ∷ b ∷ c ∷ []) ws t

module _ {σ : Shape} (f : Sound σ) where
  abbrev n : ℕ
  n = σ.words

  abbrev m : ℕ
  m = word_bytes σ

  -- ---- what it holds

  whole_row : (ws : List (List Bool)) → Row n ws → 46 * length ws ≡ 8 * m
  whole_row ws r = ap (λ (k : ℕ). 46 * k) r.0 ∙ f.whole

  module _ (a b c : ℕ) (ws : List (List Bool)) (r : Row n ws) (t : List ℕ) where
    pub laid_bits : bits (laid a b c ws t) ≡ bits (a ∷ b ∷ c ∷ []) ++ (join ws ++ bits t)
    laid_bits = bits_page_of ws m r.1 (whole_row ws r) (a ∷ b ∷ c ∷ []) t

    -- without its first three bytes
    pub laid_rest : bits (drop 3 (laid a b c ws t)) ≡ join ws ++ bits t
    unfolding page_of bits
    laid_rest = bits_page_of ws m r.1 (whole_row ws r) [] t

    pub laid_words : page_words (laid a b c ws t) n ≡ ws
    laid_words = ap (page_words (laid a b c ws t)) (sym r.0) ∙ page_words_page_of ws m r.1 (whole_row ws r) (a ∷ b ∷ c ∷ []) t refl

    pub laid_length : length (laid a b c ws t) ≡ 3 + (m + length t)
    laid_length = length_page_of ws m r.1 (whole_row ws r) (a ∷ b ∷ c ∷ []) t

    pub laid_tail : tail n (laid a b c ws t) ≡ t
    unfolding page_of
    laid_tail =
        sym (drop-drop m 3 (laid a b c ws t))
        ∙ drop_at (bytes (46 * length ws / 8) (join ws)) t m (omega (arith, length_bytes (46 * length ws / 8) (join ws), whole_row ws r))

    pub laid_Bytes : a < 256 → b < 256 → c < 256 → Bytes t → Bytes (laid a b c ws t)
    laid_Bytes ha hb hc ht =
        Bytes-page_of ws m r.1 (whole_row ws r) (a ∷ b ∷ c ∷ []) t (Bytes-three a b c [] ha hb hc (λ i. omega arith)) ht

  -- words that pass a test, after a header without a record
  pub laid_open : (k : ℕ) (test : List Bool → Bool) (ws : List (List Bool)) (t : List ℕ) → k < 256 → Row n ws → Each test ws → Bytes t → T (zeros t)
      → 3 + (m + length t) ≡ σ.size → OpenOf k test σ (laid k 0 0 ws t)
  unfolding page_of
  laid_open k test ws t hk r h b z s = record {
    sized = laid_length k 0 0 ws r t ∙ s;
    of_bytes = laid_Bytes k 0 0 ws r t hk (omega arith) (omega arith) b;
    in_state = refl;
    byte1_zero = refl;
    byte2_zero = refl;
    tail_zero = rw (laid_tail k 0 0 ws r t) z;
    words_pass = word_each test (laid k 0 0 ws t) n ws (laid_words k 0 0 ws r t) h;
  }

  -- ---- each page is one, and stays one

  pub laid_row : (page : List ℕ) → length page ≡ σ.size → Row n (page_words page n)
  laid_row page l = row_page page n (omega arith)

  pub length_tail : (page : List ℕ) → length page ≡ σ.size → 3 + (m + length (tail n page)) ≡ σ.size
  length_tail page l = omega (arith, length-drop (3 + m) page, f.inside)

  module _ (page : List ℕ) (hp : Bytes page) (l : length page ≡ σ.size) where
    -- the first three bytes and the words replaced
    laid_three : (a b c : ℕ) (ws : List (List Bool)) → a < 256 → b < 256 → c < 256 → Row n ws
        → put_words (a ∷ b ∷ c ∷ drop 3 page) ws ≡ laid a b c ws (tail n page)
    laid_three a b c ws ha hb hc r =
        let p : List ℕ = a ∷ b ∷ c ∷ drop 3 page in
        put_words_all ws m r.1 (whole_row ws r) p (Bytes-three a b c (drop 3 page) ha hb hc (Bytes-drop 3 page hp)) (omega (arith, length-drop 3 page))
        ∙ ap (laid a b c ws) (sym (drop-drop m 3 p) ∙ drop-drop m 3 page)

    -- the header and the words replaced
    pub laid_put : (a k : ℕ) (ws : List (List Bool)) → a < 256 → k < 65536 → Row n ws
        → put_words (with_header a k page) ws ≡ laid a (k % 256) (k / 256) ws (tail n page)
    laid_put a k ws ha hk r = laid_three a (k % 256) (k / 256) ws ha (omega arith) (omega arith) r

    -- bytes 1 and 2 as they are
    own_bytes : drop 1 page ≡ byte1 page ∷ byte2 page ∷ drop 3 page
    own_bytes = drop-cons page 1 0 (omega arith) ∙ ap (λ (x : List ℕ). byte1 page ∷ x) (drop-cons page 2 0 (omega arith))

    pub laid_own : laid (state page) (byte1 page) (byte2 page) (page_words page n) (tail n page) ≡ page
    laid_own =
        sym (laid_three (state page) (byte1 page) (byte2 page) (page_words page n) (hp 0) (hp 1) (hp 2) (laid_row page l))
        ∙ ap (λ (p : List ℕ). put_words p (page_words page n))
        (sym (drop-cons page 0 0 (omega arith) ∙ ap (λ (x : List ℕ). state page ∷ x) own_bytes))
        ∙ put_words_own page n hp (omega arith)

    -- the state and the words replaced
    pub laid_state : (a : ℕ) (ws : List (List Bool)) → a < 256 → Row n ws
        → put_words (a ∷ drop 1 page) ws ≡ laid a (byte1 page) (byte2 page) ws (tail n page)
    laid_state a ws ha r = ap (λ (x : List ℕ). put_words (a ∷ x) ws) own_bytes ∙ laid_three a (byte1 page) (byte2 page) ws ha (hp 1) (hp 2) r

    -- a first record written
    pub laid_first_page : (bs : List ℕ) → first_page σ page bs ≡ laid 1 (byte1 page) (byte2 page) (first_words n bs) (tail n page)
    unfolding first_page
    laid_first_page bs = laid_state 1 (first_words n bs) (omega arith) (row_first_words n bs)

  -- a page without a record, by its words
  pub laid_round : (k : ℕ) (test : List Bool → Bool) (P : List ℕ) → OpenOf k test σ P → laid k 0 0 (page_words P n) (tail n P) ≡ P
  laid_round k test P p = rw (p.in_state, p.byte1_zero, p.byte2_zero) at (laid_own P p.of_bytes p.sized)
