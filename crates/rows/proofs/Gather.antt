-- The second bits of a page gathered word after word: what holds before word i, and a turn for it. Assumes nothing.
use mathlib.Core.Bool.{Bool, true, false}
use mathlib.Core.List.{List, ◌++◌}
use mathlib.Core.Path.{◌≡◌, sym, ap, ap₂, ◌∙◌, subst}
use Prim.Native.Nat.{ℕ, ◌+◌, ◌*◌, ◌^◌, ◌≤◌, ◌<◌}
use native.Mathlib.Nat.{zero-add}
use native.Mathlib.Omega.{arith}
use lib.Dec.{T}
use lib.ListN.{length}
use Rattle.cells.specs.Cells.{first, number, cells}
use Rattle.cells.specs.Bytes.{Bytes}
use Rattle.cells.proofs.Numbers.{number_lt, cells_number}
use Rattle.cells.proofs.Bytes.{bytes_bits}
use Rattle.cells.proofs.Tests.{holds, is_true}
use Rattle.window.specs.Words.{start, pieces, word_at, splice, put_cells, page_words}
use Rattle.window.proofs.Words.{length_put_cells, put_cells_more, page_words_more, length_word_at}
use Rattle.word.specs.Word.{sparse}
use Rattle.word.specs.Fill.{fill, read, put, clear, well_formed, capacity}
use Rattle.word.proofs.Filling.{capacity_le}
use Rattle.word.proofs.SecondBits.{sparse_clear}
use Rattle.word.proofs.Claims.{capacity_bounds, well_formed_words}
use Rattle.rows.specs.Page.{read_all}
use Rattle.rows.proofs.SecondWords.{read_all_more}
use Rattle.rows.proofs.Scanning.{Passed, passed_none, passed_more}
use Rattle.rows.proofs.Counting.{Counting, counting_start, counting_turn}

-- ---- word i and its separators

-- a word of 46 cells that is well formed has a data cell
formed_some : (w : List Bool) → length w ≡ 46 → T (well_formed w) → 1 ≤ length (read w)
unfolding capacity
formed_some w e f =
    let o = (well_formed_words.comes_from w e).0 f in
    let c : length (read (clear w)) ≡ length (read (fill o.0)) = ap (λ (v : List Bool). length (read v)) o.2 in
    omega (arith, c, well_formed_words.same_count w, capacity_bounds.least o.0 o.1)

-- word i is well formed, and s has its separators
pub record Separated (page : List ℕ) (i : ℕ) (s : List Bool) : Type 0 where
  pub apart : sparse s ≡ true
  pub formed : well_formed (word_at page i) ≡ true
  pub count : length (read s) ≡ length (read (word_at page i))
  pub most : length (read (word_at page i)) ≤ 23
  pub some : 1 ≤ length (read (word_at page i))

-- as a test of it tells
pub separated : (page : List ℕ) (i : ℕ) (w s : List Bool) (t : Bool) → start i + 46 ≤ 8 * length page → w ≡ word_at page i → s ≡ clear w
    → t ≡ well_formed w → t ≡ true → Separated page i s
unfolding read
separated page i w s t h e es et k =
    let v = word_at page i in
    let f : well_formed v ≡ true = ap well_formed (sym e) ∙ sym et ∙ k in
    let ec : s ≡ clear v = es ∙ ap clear e in
    record {
      apart = ap sparse ec ∙ is_true (sparse (clear v)) (clear_apart v);
      formed = f;
      count = ap (λ (x : List Bool). length (read x)) ec ∙ well_formed_words.same_count v;
      most = omega (arith, capacity_le false v, length_word_at page i h);
      some = formed_some v (length_word_at page i h) (holds (well_formed v) f);
    }
  where
    clear_apart : (v : List Bool) → T (sparse (clear v))
    clear_apart v = unfold clear put sparse first in sparse_clear false v

-- the bits that are read from it fit their number
pub read_fits : (page : List ℕ) (i : ℕ) (w s : List Bool) (n v : ℕ) → w ≡ word_at page i → Separated page i s → n ≡ length (read s) → v ≡ number (read w)
    → v < 2 ^ n
read_fits page i w s n v e q en ev =
    let k : length (read w) ≡ n = ap (λ (l : List Bool). length (read l)) e ∙ sym (en ∙ q.count) in
    subst (λ (m : ℕ). v < 2 ^ m) k (subst (λ (x : ℕ). x < 2 ^ length (read w)) (sym ev) (number_lt (read w)))

-- ---- the loop

module _ (page buffer₀ : List ℕ) where
  -- before word i: the words before it are well formed, and their bits are in the buffer
  pub record Gathering (buffer : List ℕ) (at i : ℕ) : Type 0 where
    pub formed : Passed well_formed page i
    pub counted : Counting page at i
    pub held : buffer ≡ put_cells buffer₀ 0 (read_all (page_words page i))

  pub gathering_start : Bytes buffer₀ → Gathering buffer₀ 0 0
  gathering_start b = record {
    formed = passed_none well_formed page;
    counted = counting_start page;
    held = unfold read_all page_words pieces splice in sym (bytes_bits buffer₀ b);
  }

  pub gathering_length : (buffer : List ℕ) (at i : ℕ) → Gathering buffer at i → length buffer ≡ length buffer₀
  gathering_length buffer at i g = ap length g.held ∙ length_put_cells buffer₀ 0 (read_all (page_words page i))

  pub gathering_turn : (buffer next : List ℕ) (at i : ℕ) (w s : List Bool) (n v : ℕ) → Gathering buffer at i → 23 * i ≤ 8 * length buffer₀
      → w ≡ word_at page i → Separated page i s → n ≡ length (read s) → v ≡ number (read w) → next ≡ put_cells buffer at (cells n v)
      → Gathering next (at + n) (i + 1)
  gathering_turn buffer next at i w s n v g h ew sw en ev ex =
      let x = word_at page i in
      let r = read_all (page_words page i) in
      let more : read_all (page_words page (i + 1)) ≡ r ++ read x = ap read_all (page_words_more page i) ∙ read_all_more (page_words page i) x in
      let nx : n ≡ length (read x) = en ∙ sw.count in
      let vx : cells n v ≡ read x =
      ap₂ cells nx (ev ∙ ap (λ (l : List Bool). number (read l)) ew) ∙ cells_number (read x) in
      let at0 : at ≡ 0 + length r = g.counted.sum ∙ sym (zero-add (length r)) in
      record {
        formed = passed_more well_formed page i g.formed sw.formed;
        counted = counting_turn page at i n nx (omega (arith, nx, sw.most)) g.counted;
        held =
            ex ∙ ap₂ (λ (k : ℕ) (l : List Bool). put_cells buffer k l) at0 vx
            ∙ ap (λ (b : List ℕ). put_cells b (0 + length r) (read x)) g.held
            ∙ put_cells_more buffer₀ 0 r (read x) (omega (arith, g.counted.few, g.counted.sum))
            ∙ ap (put_cells buffer₀ 0) (sym more);
      }
