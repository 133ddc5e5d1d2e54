-- Laws of the first record, over the number of its words: the words of a record are legal, a record is read back from its words, and
-- legal words are the words of the record that they hold.
-- Assumes nothing.
use mathlib.Core.Bool.{Bool}
use mathlib.Core.List.{List, [], ◌∷◌, ◌++◌}
use mathlib.Core.Path.{◌≡◌, refl, sym, ap, ap₂, ◌∙◌}
use Prim.Native.Nat.{ℕ, zero, suc, ◌+◌, ◌*◌, ◌^◌, ◌≤◌, ◌<◌}
use native.Mathlib.Nat.{lt_of_lt_of_le, min-le_left}
use native.Mathlib.Omega.{arith}
use lib.ListN.{length, take, drop, get_or, length-append, length-take, length-drop, take-append-drop}
use lib.Pow.{pow_mono}
use lib.Seq.{length-take-le, take_at, drop_at, drop-drop}
use Rattle.cells.specs.Cells.{number, cells}
use Rattle.cells.specs.Bytes.{bits, bytes, Bytes}
use Rattle.cells.proofs.Numbers.{length_cells, number_lt, number_cells, cells_of}
use Rattle.cells.proofs.Bytes.{length_bits, length_bytes, bits_bytes, bytes_bits, Bytes-bytes, Bytes-take, Bytes-drop, Bytes-append}
use Rattle.window.specs.Words.{Words}
use Rattle.word.specs.Word.{sum, legal, zeckendorf}
use Rattle.word.specs.Claims.{Legal}
use Rattle.word.proofs.Sums.{length_zeckendorf, legal_parts}
use Rattle.word.proofs.Claims.{one_legal_word}
use Rattle.rows.specs.Page.{first_words, first_record}
use Rattle.rows.proofs.EachWord.{Each, Row}

-- ---- the value of four bytes

pub value_le : (l : List ℕ) → number (bits (take 4 l)) ≤ 4294967295
value_le l =
    let m = min-le_left 4 (length l) in
    let h : length (bits (take 4 l)) ≤ 32 = omega (arith, length_bits (take 4 l), length-take 4 l) in
    let b : number (bits (take 4 l)) < 2 ^ 32 = lt_of_lt_of_le (number_lt (bits (take 4 l))) (pow_mono h) in
    omega arith

-- ---- the words of a record

pub length_first_words : (n : ℕ) (bs : List ℕ) → length (first_words n bs) ≡ n
unfolding first_words
length_first_words zero bs = refl
length_first_words (suc n) bs = ap suc (length_first_words n (drop 4 bs))

pub Words-first_words : (n : ℕ) (bs : List ℕ) → Words (first_words n bs)
unfolding first_words
Words-first_words zero bs = tt
Words-first_words (suc n) bs = (length_zeckendorf 46 (number (bits (take 4 bs))), Words-first_words n (drop 4 bs))

pub row_first_words : (n : ℕ) (bs : List ℕ) → Row n (first_words n bs)
row_first_words n bs = (length_first_words n bs, Words-first_words n bs)

pub legal_first_words : (n : ℕ) (bs : List ℕ) → Each legal (first_words n bs)
unfolding first_words
legal_first_words zero bs = tt
legal_first_words (suc n) bs =
    ((one_legal_word.some (number (bits (take 4 bs))) (value_le bs)).0.1, legal_first_words n (drop 4 bs))

pub get_d_first_words : (n : ℕ) (bs : List ℕ) (i : ℕ) → i < n
    → get_or (first_words n bs) i [] ≡ zeckendorf 46 (number (bits (take 4 (drop (4 * i) bs))))
unfolding first_words
get_d_first_words zero bs i h = absurd (omega arith)
get_d_first_words (suc n) bs zero h = refl
get_d_first_words (suc n) bs (suc i) h =
    let e : 4 + 4 * i ≡ 4 * suc i = omega arith in
    get_d_first_words n (drop 4 bs) i (omega arith)
    ∙ ap (λ (l : List ℕ). zeckendorf 46 (number (bits (take 4 l)))) (drop-drop (4 * i) 4 bs ∙ ap (λ (k : ℕ). drop k bs) e)

-- ---- the record of words

pub length_first_record : (ws : List (List Bool)) → length (first_record ws) ≡ 4 * length ws
unfolding first_record
length_first_record [] = refl
length_first_record (w ∷ ws) =
    omega (arith, length-append (bytes 4 (cells 32 (sum w))) (first_record ws), length_bytes 4 (cells 32 (sum w)), length_first_record ws)

pub Bytes-first_record : (ws : List (List Bool)) → Bytes (first_record ws)
unfolding first_record
Bytes-first_record [] = λ i. omega arith
Bytes-first_record (w ∷ ws) =
    Bytes-append (bytes 4 (cells 32 (sum w))) (first_record ws) (Bytes-bytes 4 (cells 32 (sum w))) (Bytes-first_record ws)

-- ---- there and back

-- four bytes from the word of their value
four_back : (l : List ℕ) → Bytes l → length l ≡ 4 → bytes 4 (cells 32 (number (bits l))) ≡ l
four_back l b e =
    ap (bytes 4) (cells_of 32 (bits l) (omega (arith, length_bits l)))
    ∙ ap (λ (n : ℕ). bytes n (bits l)) (sym e)
    ∙ bytes_bits l b

pub first_record_first_words : (n : ℕ) (bs : List ℕ) → Bytes bs → length bs ≡ 4 * n → first_record (first_words n bs) ≡ bs
unfolding first_words first_record
first_record_first_words zero [] b e = refl
first_record_first_words zero (x ∷ bs) b e = absurd (omega arith)
first_record_first_words (suc n) bs b e =
    let v = number (bits (take 4 bs)) in
    ap₂ (λ (x y : List ℕ). x ++ y)
    (ap (λ (k : ℕ). bytes 4 (cells 32 k)) (one_legal_word.some v (value_le bs)).1
    ∙ four_back (take 4 bs) (Bytes-take 4 bs b) (length-take-le 4 bs (omega arith)))
    (first_record_first_words n (drop 4 bs) (Bytes-drop 4 bs b) (length-drop 4 bs ∙ omega arith))
    ∙ take-append-drop 4 bs

-- a legal word from the four bytes of its value
word_back : (w : List Bool) → Legal w → zeckendorf 46 (number (bits (bytes 4 (cells 32 (sum w))))) ≡ w
word_back w h =
    let s = (legal_parts w h.1).1 in
    ap (λ (l : List Bool). zeckendorf 46 (number l)) (bits_bytes 4 (cells 32 (sum w)) (length_cells 32 (sum w)))
    ∙ ap (zeckendorf 46) (number_cells 32 (sum w) (omega arith))
    ∙ sym (one_legal_word.only w h)

pub first_words_first_record : (ws : List (List Bool)) → Words ws → Each legal ws → first_words (length ws) (first_record ws) ≡ ws
unfolding first_words first_record
first_words_first_record [] h t = refl
first_words_first_record (w ∷ ws) h t =
    let c = bytes 4 (cells 32 (sum w)) in
    let e : length c ≡ 4 = length_bytes 4 (cells 32 (sum w)) in
    ap₂ (λ (x : List Bool) (r : List (List Bool)). x ∷ r)
    (ap (λ (l : List ℕ). zeckendorf 46 (number (bits l))) (take_at c (first_record ws) 4 e) ∙ word_back w (h.0, t.0))
    (ap (first_words (length ws)) (drop_at c (first_record ws) 4 e) ∙ first_words_first_record ws h.1 t.1)
