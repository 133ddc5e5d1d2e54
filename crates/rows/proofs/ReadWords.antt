-- The first record read word after word: what holds before word i, and a turn for it. Assumes nothing.
use mathlib.Core.Bool.{Bool}
use mathlib.Core.List.{List, [], ◌∷◌, ◌++◌, append_assoc, append-nil}
use mathlib.Core.Path.{◌≡◌, refl, sym, ap, ap₂, ◌∙◌}
use Prim.Native.Nat.{ℕ, ◌+◌, ◌*◌}
use native.Mathlib.Omega.{arith}
use lib.ListN.{length}
use lib.Seq.{paste}
use Rattle.cells.specs.Cells.{cells}
use Rattle.cells.specs.Bytes.{bytes, at_start}
use Rattle.cells.proofs.Bytes.{at_start_more, length_bytes}
use Rattle.window.specs.Words.{pieces, word_at, page_words}
use Rattle.window.proofs.Words.{length_page_words, page_words_more}
use Rattle.word.specs.Word.{sum}
use Rattle.rows.specs.Page.{first_record}
use Rattle.rows.proofs.FirstRecord.{length_first_record}

first_record_more : (ws : List (List Bool)) (w : List Bool) → first_record (ws ++ (w ∷ [])) ≡ first_record ws ++ bytes 4 (cells 32 (sum w))
unfolding first_record
first_record_more [] w = append-nil (bytes 4 (cells 32 (sum w)))
first_record_more (v ∷ ws) w =
    ap (λ (r : List ℕ). bytes 4 (cells 32 (sum v)) ++ r) (first_record_more ws w)
    ∙ sym (append_assoc (bytes 4 (cells 32 (sum v))) (first_record ws) (bytes 4 (cells 32 (sum w))))

abbrev pub Reading : List ℕ → List ℕ → List ℕ → ℕ → Type 0
Reading page out₀ out i = out ≡ at_start (first_record (page_words page i)) out₀

pub reading_start : (page out₀ : List ℕ) → Reading page out₀ out₀ 0
unfolding at_start first_record page_words pieces
reading_start page out₀ = refl

pub reading_turn : (page out₀ out next : List ℕ) (i : ℕ) (w : List Bool) (v : ℕ) → Reading page out₀ out i → w ≡ word_at page i → v ≡ sum w
    → next ≡ paste out (4 * i) (bytes 4 (cells 32 v)) 4 → Reading page out₀ next (i + 1)
reading_turn page out₀ out next i w v r ew ev en =
    let a = first_record (page_words page i) in
    let s = bytes 4 (cells 32 v) in
    let la : 4 * i ≡ length a = omega (arith, length_first_record (page_words page i), length_page_words page i) in
    let ls : 4 ≡ length s = sym (length_bytes 4 (cells 32 v)) in
    en ∙ ap₂ (λ (o : List ℕ) (k : ℕ). paste o k s 4) r la
    ∙ ap (λ (n : ℕ). paste (at_start a out₀) (length a) s n) ls
    ∙ at_start_more a s out₀
    ∙ ap (λ (x : List ℕ). at_start x out₀)
    (ap (λ (y : ℕ). a ++ bytes 4 (cells 32 y)) (ev ∙ ap sum ew) ∙ sym (first_record_more (page_words page i) (word_at page i))
    ∙ ap first_record (sym (page_words_more page i)))
