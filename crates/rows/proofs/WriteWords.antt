-- The first record written word after word: what holds before word i, and a turn for it. Assumes nothing.
use mathlib.Core.Bool.{Bool}
use mathlib.Core.List.{List, [], ◌∷◌, ◌++◌}
use mathlib.Core.Path.{◌≡◌, refl, sym, ap, ap₂, ◌∙◌}
use Prim.Native.Nat.{ℕ, zero, suc, ◌+◌, ◌*◌, ◌≤◌}
use native.Mathlib.Numerals.{add-one}
use native.Mathlib.Omega.{arith}
use lib.ListN.{length, take, drop}
use lib.Seq.{drop-drop}
use Rattle.cells.specs.Cells.{number}
use Rattle.cells.specs.Bytes.{bits, Bytes}
use Rattle.window.specs.Words.{start, put_word, put_words}
use Rattle.window.proofs.Words.{put_words_none, put_words_more}
use Rattle.word.specs.Word.{zeckendorf}
use Rattle.word.proofs.Sums.{length_zeckendorf}
use Rattle.rows.specs.Page.{first_words}
use Rattle.rows.proofs.FirstRecord.{length_first_words, Words-first_words}

words_suc : (i : ℕ) (bs : List ℕ) → first_words (suc i) bs ≡ first_words i bs ++ (zeckendorf 46 (number (bits (take 4 (drop (4 * i) bs)))) ∷ [])
unfolding first_words
words_suc zero bs = refl
words_suc (suc i) bs =
    let e : 4 + 4 * i ≡ 4 * suc i = omega arith in
    ap (λ (r : List (List Bool)). zeckendorf 46 (number (bits (take 4 bs))) ∷ r)
    (words_suc i (drop 4 bs)
    ∙ ap (λ (l : List ℕ). first_words i (drop 4 bs) ++ (zeckendorf 46 (number (bits (take 4 l))) ∷ [])) (drop-drop (4 * i) 4 bs ∙ ap (λ (k : ℕ). drop k bs) e))

first_words_more : (i : ℕ) (bs : List ℕ) → first_words (i + 1) bs ≡ first_words i bs ++ (zeckendorf 46 (number (bits (take 4 (drop (4 * i) bs)))) ∷ [])
first_words_more i bs = ap (λ (n : ℕ). first_words n bs) (add-one i) ∙ words_suc i bs

-- before word i, the words before it are those of the record
abbrev pub Writing : List ℕ → List ℕ → List ℕ → ℕ → Type 0
Writing page₀ bs page i = page ≡ put_words page₀ (first_words i bs)

pub writing_start : (page₀ bs : List ℕ) → Bytes page₀ → Writing page₀ bs page₀ 0
unfolding first_words
writing_start page₀ bs b = sym (put_words_none page₀ b)

pub writing_turn : (page₀ bs page next : List ℕ) (i x : ℕ) (v : List Bool) → start i + 46 ≤ 8 * length page₀ → Writing page₀ bs page i
    → x ≡ number (bits (take 4 (drop (4 * i) bs))) → v ≡ zeckendorf 46 x → next ≡ put_word page i v → Writing page₀ bs next (i + 1)
writing_turn page₀ bs page next i x v h r ex ev en =
    let w = zeckendorf 46 (number (bits (take 4 (drop (4 * i) bs)))) in
    let ws = first_words i bs in
    let l : length ws ≡ i = length_first_words i bs in
    let ew : v ≡ w = ev ∙ ap (zeckendorf 46) ex in
    en ∙ ap₂ (λ (p : List ℕ) (u : List Bool). put_word p i u) r ew
    ∙ ap (λ (k : ℕ). put_word (put_words page₀ ws) k w) (sym l)
    ∙ put_words_more page₀ ws w (Words-first_words i bs) (length_zeckendorf 46 _) (omega (arith, l))
    ∙ ap (put_words page₀) (sym (first_words_more i bs))
