-- Laws of the words of a page, over the number of words: a part replaced, cells put, a word put, words put one after another, and
-- a page from its words and back.
-- Assumes nothing.
use mathlib.Core.Bool.{Bool}
use mathlib.Core.List.{List, [], ◌∷◌, ◌++◌, append_assoc, append-nil}
use mathlib.Core.Path.{◌≡◌, refl, sym, ap, ap₂, ◌∙◌}
use Prim.Native.Nat.{ℕ, zero, suc, ◌+◌, ◌-◌, ◌*◌, ◌/◌, ◌^◌, ◌≤◌, ◌<◌}
use native.Mathlib.Nat.{zero-add, suc-add, mul-div_cancel_left}
use native.Mathlib.Omega.{arith}
use lib.Dec.{lit<}
use lib.ListN.{length, take, drop, get_or, set, length-append, length-drop, take-append-drop}
use lib.Seq.{take_at, drop_at, length-take-le, drop-drop, take-nil, drop-append-add, take-add, drop-set-lt}
use Rattle.cells.specs.Cells.{number, cells}
use Rattle.cells.specs.Bytes.{bits, bytes, Bytes}
use Rattle.cells.proofs.Numbers.{cells_of, number_below}
use Rattle.cells.proofs.Bytes.{length_bits, bits_append, bits_bytes, bytes_bits, length_bytes, drop_bits, take_bits, Bytes-bytes, Bytes-take, Bytes-drop, Bytes-append}
use Rattle.window.specs.Words.{start, word_at, splice, put_cells, put_word, join, pieces, page_words, page_of, put_words, Words}

pub drop_take {ℓ} : {A : Type ℓ} (a n : ℕ) (l : List A) → drop a (take (a + n) l) ≡ take n (drop a l)
drop_take zero n l = ap (λ (k : ℕ). take k l) (zero-add n)
drop_take (suc a) n [] = ap (λ (k : ℕ). drop (suc a) (take k [])) (suc-add a n) ∙ sym (take-nil n)
drop_take (suc a) n (x ∷ l) = ap (λ (k : ℕ). drop (suc a) (take k (x ∷ l))) (suc-add a n) ∙ drop_take a n l

-- ---- a part replaced

pub length_splice : (a : ℕ) (new l : List Bool) → a + length new ≤ length l → length (splice a new l) ≡ length l
unfolding splice
length_splice a new l h =
    omega (
      arith,
      length-append (take a l) (new ++ drop (a + length new) l),
      length-append new (drop (a + length new) l),
      length-drop (a + length new) l,
      length-take-le a l (omega arith),
    )

-- what is after it stays
pub splice_after : (n a : ℕ) (new l : List Bool) → a + length new ≤ n → a ≤ length l → drop n (splice a new l) ≡ drop n l
unfolding splice
splice_after n a new l h k =
    let x = a + length new in
    let y = n - x in
    let e : n ≡ a + (length new + y) = omega arith in
    let f : x + y ≡ n = omega arith in
    let t = take a l in
    let la : length t ≡ a = length-take-le a l k in
    ap (λ (j : ℕ). drop j (t ++ (new ++ drop x l))) (e ∙ ap (λ (j : ℕ). j + (length new + y)) (sym la))
    ∙ drop-append-add t (new ++ drop x l) (length new + y)
    ∙ drop-append-add new (drop x l) y
    ∙ drop-drop y x l ∙ ap (λ (j : ℕ). drop j l) f

-- all up to its end
pub splice_head : (a : ℕ) (u l : List Bool) → a ≤ length l → take (a + length u) (splice a u l) ≡ take a l ++ u
unfolding splice
splice_head a u l h =
    ap (take (a + length u)) (sym (append_assoc (take a l) u (drop (a + length u) l)))
    ∙ take_at (take a l ++ u) (drop (a + length u) l) (a + length u) (omega (arith, length-append (take a l) u, length-take-le a l h))

-- a second part put right after a first
pub splice_more : (a : ℕ) (u w l : List Bool) → a ≤ length l → splice (a + length u) w (splice a u l) ≡ splice a (u ++ w) l
unfolding splice
splice_more a u w l h =
    let e : a + length u + length w ≡ a + length (u ++ w) = omega (arith, length-append u w) in
    ap₂ (λ (x y : List Bool). x ++ (w ++ y)) (splice_head a u l h)
    (splice_after (a + length u + length w) a u l (omega arith) h ∙ ap (λ (j : ℕ). drop j l) e)
    ∙ append_assoc (take a l) u (w ++ drop (a + length (u ++ w)) l)
    ∙ ap (λ (x : List Bool). take a l ++ x) (sym (append_assoc u w (drop (a + length (u ++ w)) l)))

-- ---- cells put

module _ (page : List ℕ) (a : ℕ) (new : List Bool) where
  pub length_put_cells : length (put_cells page a new) ≡ length page
  length_put_cells = length_bytes (length page) (splice a new (bits page))

  pub bits_put_cells : a + length new ≤ 8 * length page → bits (put_cells page a new) ≡ splice a new (bits page)
  bits_put_cells h = bits_bytes (length page) (splice a new (bits page))
      (length_splice a new (bits page) (omega (arith, length_bits page)) ∙ length_bits page)

  -- others put right after them
  pub put_cells_more : (w : List Bool) → a + length new ≤ 8 * length page
      → put_cells (put_cells page a new) (a + length new) w ≡ put_cells page a (new ++ w)
  put_cells_more w h =
      ap₂ bytes length_put_cells
      (ap (splice (a + length new) w) (bits_put_cells h) ∙ splice_more a new w (bits page) (omega (arith, length_bits page)))

-- none put
pub put_cells_none : (page : List ℕ) (a : ℕ) → Bytes page → put_cells page a [] ≡ page
unfolding splice
put_cells_none page a b =
    let e : a + 0 ≡ a = omega arith in
    ap (bytes (length page)) (ap (λ (k : ℕ). take a (bits page) ++ drop k (bits page)) e ∙ take-append-drop a (bits page)) ∙ bytes_bits page b

-- ---- words, one after another

pub length_join : (ws : List (List Bool)) → Words ws → length (join ws) ≡ 46 * length ws
unfolding join
length_join [] h = refl
length_join (w ∷ ws) h = omega (arith, length-append w (join ws), length_join ws h.1, h.0)

pub join_append : (a b : List (List Bool)) → join (a ++ b) ≡ join a ++ join b
unfolding join
join_append [] b = refl
join_append (w ∷ a) b = ap (λ (l : List Bool). w ++ l) (join_append a b) ∙ sym (append_assoc w (join a) (join b))

pub length_pieces : (n : ℕ) (l : List Bool) → length (pieces n l) ≡ n
unfolding pieces
length_pieces zero l = refl
length_pieces (suc n) l = ap suc (length_pieces n (drop 46 l))

pub Words-pieces : (n : ℕ) (l : List Bool) → 46 * n ≤ length l → Words (pieces n l)
unfolding pieces
Words-pieces zero l h = tt
Words-pieces (suc n) l h = (length-take-le 46 l (omega arith), Words-pieces n (drop 46 l) (omega (arith, length-drop 46 l)))

pub join_pieces : (n : ℕ) (l : List Bool) → join (pieces n l) ≡ take (46 * n) l
unfolding pieces join
join_pieces zero l = refl
join_pieces (suc n) l =
    let e : 46 * suc n ≡ 46 + 46 * n = omega arith in
    ap (λ (r : List Bool). take 46 l ++ r) (join_pieces n (drop 46 l)) ∙ sym (take-add 46 (46 * n) l) ∙ ap (λ (k : ℕ). take k l) (sym e)

pub pieces_join : (ws : List (List Bool)) (l : List Bool) → Words ws → pieces (length ws) (join ws ++ l) ≡ ws
unfolding pieces join
pieces_join [] l h = refl
pieces_join (w ∷ ws) l h =
    ap₂ (λ (x : List Bool) (r : List (List Bool)). x ∷ r)
    (ap (take 46) (append_assoc w (join ws) l) ∙ take_at w (join ws ++ l) 46 h.0)
    (ap (λ (r : List Bool). pieces (length ws) (drop 46 r)) (append_assoc w (join ws) l) ∙ ap (pieces (length ws)) (drop_at w (join ws ++ l) 46 h.0) ∙ pieces_join ws l h.1)

pub get_d_pieces : (n : ℕ) (l : List Bool) (i : ℕ) → i < n → get_or (pieces n l) i [] ≡ take 46 (drop (46 * i) l)
unfolding pieces
get_d_pieces zero l i h = absurd (omega arith)
get_d_pieces (suc n) l zero h = refl
get_d_pieces (suc n) l (suc i) h =
    let e : 46 + 46 * i ≡ 46 * suc i = omega arith in
    get_d_pieces n (drop 46 l) i (omega arith) ∙ ap (take 46) (drop-drop (46 * i) 46 l ∙ ap (λ (k : ℕ). drop k l) e)

-- the words of a page, by index
pub get_d_page_words : (page : List ℕ) (n i : ℕ) → i < n → get_or (page_words page n) i [] ≡ word_at page i
unfolding page_words word_at
get_d_page_words page n i h = get_d_pieces n (drop 24 (bits page)) i h ∙ ap (take 46) (drop-drop (46 * i) 24 (bits page))

-- ---- a page from its words

pub put_words_none : (page : List ℕ) → Bytes page → put_words page [] ≡ page
unfolding put_words join
put_words_none page b = put_cells_none page 24 b

-- how a loop that puts words extends what it has done
pub put_words_more : (page : List ℕ) (ws : List (List Bool)) (w : List Bool) → Words ws → length w ≡ 46 → start (length ws) + 46 ≤ 8 * length page
    → put_word (put_words page ws) (length ws) w ≡ put_words page (ws ++ (w ∷ []))
unfolding put_words put_word
put_words_more page ws w hs e h =
    let lj = length_join ws hs in
    let f : start (length ws) ≡ 24 + length (join ws) = omega arith in
    let j : join ws ++ w ≡ join (ws ++ (w ∷ [])) = ap (λ (l : List Bool). join ws ++ l) (sym (single w)) ∙ sym (join_append ws (w ∷ [])) in
    ap (λ (k : ℕ). put_cells (put_cells page 24 (join ws)) k w) f
    ∙ put_cells_more page 24 (join ws) w (omega arith)
    ∙ ap (put_cells page 24) j
  where
    single : (w : List Bool) → join (w ∷ []) ≡ w
    single w = unfold join in append-nil w

-- the words that follow stay
pub word_at_put_words : (page : List ℕ) (ws : List (List Bool)) (j : ℕ) → Words ws → length ws ≤ j → start (length ws) ≤ 8 * length page
    → word_at (put_words page ws) j ≡ word_at page j
unfolding put_words word_at
word_at_put_words page ws j hs l h =
    let lj = length_join ws hs in
    ap (λ (x : List Bool). take 46 (drop (start j) x)) (bits_put_cells page 24 (join ws) (omega arith))
    ∙ ap (take 46) (splice_after (start j) 24 (join ws) (bits page) (omega arith) (omega (arith, length_bits page)))

pub length_put_words : (page : List ℕ) (ws : List (List Bool)) → length (put_words page ws) ≡ length page
unfolding put_words
length_put_words page ws = length_put_cells page 24 (join ws)

pub length_page_words : (page : List ℕ) (n : ℕ) → length (page_words page n) ≡ n
unfolding page_words
length_page_words page n = length_pieces n (drop 24 (bits page))

pub Words-page_words : (page : List ℕ) (n : ℕ) → start n ≤ 8 * length page → Words (page_words page n)
unfolding page_words
Words-page_words page n h = Words-pieces n (drop 24 (bits page)) (omega (arith, length-drop 24 (bits page), length_bits page))

-- a byte before the words set: the words stay
pub page_words_set : (page : List ℕ) (j v n : ℕ) → j < 3 → page_words (set page j v) n ≡ page_words page n
unfolding page_words
page_words_set page j v n h = ap (pieces n) (drop_bits 3 (set page j v) ∙ ap bits (drop-set-lt 3 page j v h) ∙ sym (drop_bits 3 page))

-- a page's own words put again
pub put_words_own : (page : List ℕ) (n : ℕ) → Bytes page → start n ≤ 8 * length page → put_words page (page_words page n) ≡ page
unfolding put_words page_words splice
put_words_own page n b h =
    let l = bits page in
    let d = drop 24 l in
    let j = join_pieces n d in
    let k : length (join (pieces n d)) ≡ 46 * n = ap length j ∙ length-take-le (46 * n) d (omega (arith, length-drop 24 l, length_bits page)) in
    ap (bytes (length page))
    (ap₂ (λ (x : List Bool) (m : ℕ). take 24 l ++ (x ++ drop (24 + m) l)) j k
    ∙ ap (λ (x : List Bool). take 24 l ++ (take (46 * n) d ++ x)) (sym (drop-drop (46 * n) 24 l))
    ∙ ap (λ (x : List Bool). take 24 l ++ x) (take-append-drop (46 * n) d)
    ∙ take-append-drop 24 l)
    ∙ bytes_bits page b

-- a page of n words in m bytes: 44 in 253, 88 in 506
module _ (ws : List (List Bool)) (m : ℕ) (hs : Words ws) (e : 46 * length ws ≡ 8 * m) where
  bytes_of : 46 * length ws / 8 ≡ m
  bytes_of = ap (λ (x : ℕ). x / 8) e ∙ mul-div_cancel_left m (lit< tt)

  pub bits_page_of : (head tail : List ℕ) → bits (page_of head ws tail) ≡ bits head ++ (join ws ++ bits tail)
  unfolding page_of
  bits_page_of head tail =
      let x = bytes (46 * length ws / 8) (join ws) in
      bits_append head (x ++ tail)
      ∙ ap (λ (l : List Bool). bits head ++ l)
      (bits_append x tail ∙ ap (λ (l : List Bool). l ++ bits tail)
      (bits_bytes (46 * length ws / 8) (join ws) (length_join ws hs ∙ e ∙ ap (λ (k : ℕ). 8 * k) (sym bytes_of))))

  pub length_page_of : (head tail : List ℕ) → length (page_of head ws tail) ≡ length head + (m + length tail)
  unfolding page_of
  length_page_of head tail =
      let x = bytes (46 * length ws / 8) (join ws) in
      omega (arith, length-append head (x ++ tail), length-append x tail, length_bytes (46 * length ws / 8) (join ws), bytes_of)

  pub Bytes-page_of : (head tail : List ℕ) → Bytes head → Bytes tail → Bytes (page_of head ws tail)
  unfolding page_of
  Bytes-page_of head tail h t =
      let x = bytes (46 * length ws / 8) (join ws) in
      Bytes-append head (x ++ tail) h (Bytes-append x tail (Bytes-bytes (46 * length ws / 8) (join ws)) t)

  -- all words put: the page is its header, the words, and what followed them
  pub put_words_all : (page : List ℕ) → Bytes page → 3 + m ≤ length page → put_words page ws ≡ page_of (take 3 page) ws (drop (3 + m) page)
  unfolding put_words splice
  put_words_all page b h =
      let r = page_of (take 3 page) ws (drop (3 + m) page) in
      let f : 24 + length (join ws) ≡ 8 * (3 + m) = omega (arith, length_join ws hs) in
      let lr : length page ≡ length r =
      omega (arith, length_page_of (take 3 page) (drop (3 + m) page), length-take-le 3 page (omega arith), length-drop (3 + m) page) in
      let br : take 24 (bits page) ++ (join ws ++ drop (24 + length (join ws)) (bits page)) ≡ bits r =
      ap₂ (λ (x y : List Bool). x ++ (join ws ++ y)) (take_bits 3 page) (ap (λ (k : ℕ). drop k (bits page)) f ∙ drop_bits (3 + m) page)
      ∙ sym (bits_page_of (take 3 page) (drop (3 + m) page)) in
      ap₂ bytes lr br ∙ bytes_bits r (Bytes-page_of (take 3 page) (drop (3 + m) page) (Bytes-take 3 page b) (Bytes-drop (3 + m) page b))

  -- the words of a page made from words
  pub page_words_page_of : (head tail : List ℕ) → length head ≡ 3 → page_words (page_of head ws tail) (length ws) ≡ ws
  unfolding page_words
  page_words_page_of head tail h =
      ap (λ (l : List Bool). pieces (length ws) (drop 24 l)) (bits_page_of head tail)
      ∙ ap (pieces (length ws)) (drop_at (bits head) (join ws ++ bits tail) 24 (omega (arith, length_bits head)))
      ∙ pieces_join ws (bits tail) hs

-- more words
pieces_append : (m n : ℕ) (l : List Bool) → pieces (m + n) l ≡ pieces m l ++ pieces n (drop (46 * m) l)
unfolding pieces
pieces_append zero n l = ap (λ (k : ℕ). pieces k l) (zero-add n)
pieces_append (suc m) n l =
    let e : 46 + 46 * m ≡ 46 * suc m = omega arith in
    ap (λ (k : ℕ). pieces k l) (suc-add m n)
    ∙ ap (λ (r : List (List Bool)). take 46 l ∷ r)
    (pieces_append m n (drop 46 l)
    ∙ ap (λ (r : List Bool). pieces m (drop 46 l) ++ pieces n r) (drop-drop (46 * m) 46 l ∙ ap (λ (k : ℕ). drop k l) e))

-- one more
pub page_words_more : (page : List ℕ) (n : ℕ) → page_words page (n + 1) ≡ page_words page n ++ (word_at page n ∷ [])
unfolding page_words word_at pieces
page_words_more page n =
    pieces_append n 1 (drop 24 (bits page))
    ∙ ap (λ (l : List Bool). pieces n (drop 24 (bits page)) ++ (take 46 l ∷ [])) (drop-drop (46 * n) 24 (bits page))

-- words that take k whole bytes: those after them are the words of the page from byte k on
module _ (page : List ℕ) (m k : ℕ) (e : 46 * m ≡ 8 * k) where
  after_words : (j : ℕ) → drop (24 + j) (bits (drop k page)) ≡ drop (24 + (46 * m + j)) (bits page)
  after_words j =
      let f : 8 * k + (24 + j) ≡ 24 + (46 * m + j) = omega arith in
      ap (drop (24 + j)) (sym (drop_bits k page)) ∙ drop-drop (24 + j) (8 * k) (bits page) ∙ ap (λ (i : ℕ). drop i (bits page)) f

  pub page_words_append : (n : ℕ) → page_words page (m + n) ≡ page_words page m ++ page_words (drop k page) n
  unfolding page_words
  page_words_append n =
      let f : 24 + (46 * m + 0) ≡ 24 + 46 * m = omega arith in
      pieces_append m n (drop 24 (bits page))
      ∙ ap (λ (l : List Bool). pieces m (drop 24 (bits page)) ++ pieces n l)
      (drop-drop (46 * m) 24 (bits page) ∙ sym (after_words 0 ∙ ap (λ (i : ℕ). drop i (bits page)) f))

  pub word_at_after : (j : ℕ) → word_at (drop k page) j ≡ word_at page (m + j)
  unfolding word_at
  word_at_after j =
      let f : 24 + (46 * m + 46 * j) ≡ start (m + j) = omega arith in
      ap (take 46) (after_words (46 * j) ∙ ap (λ (i : ℕ). drop i (bits page)) f)

pub length_word_at : (page : List ℕ) (i : ℕ) → start i + 46 ≤ 8 * length page → length (word_at page i) ≡ 46
unfolding word_at
length_word_at page i h = length-take-le 46 (drop (start i) (bits page)) (omega (arith, length-drop (start i) (bits page), length_bits page))

-- a word is the cells of its number
pub cells_word_at : (page : List ℕ) (i : ℕ) → start i + 46 ≤ 8 * length page → cells 46 (number (word_at page i)) ≡ word_at page i
cells_word_at page i h = cells_of 46 (word_at page i) (length_word_at page i h)

pub word_at_lt : (page : List ℕ) (i : ℕ) → start i + 46 ≤ 8 * length page → number (word_at page i) < 2 ^ 46
word_at_lt page i h = number_below 46 (word_at page i) (length_word_at page i h)
