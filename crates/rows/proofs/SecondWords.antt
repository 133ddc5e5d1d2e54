-- Second bits over several words, one after another: the laws of one word (Rattle.word.proofs), summed over any number of words.
-- Assumes nothing.
use mathlib.Core.Bool.{Bool, false}
use mathlib.Core.List.{List, [], ◌∷◌, ◌++◌, append_assoc, append-nil}
use mathlib.Core.Path.{◌≡◌, refl, sym, ap, ap₂, ◌∙◌}
use Prim.Native.Nat.{ℕ, suc, ◌+◌, ◌*◌, ◌≤◌}
use native.Mathlib.Omega.{arith}
use lib.ListN.{length, take, drop, length-append}
use lib.Seq.{drop-drop, drop_at, take_at, take_all}
use Rattle.cells.specs.Cells.{fit, some_set}
use Rattle.cells.proofs.Fits.{fit_spare, length_fit, fit_add, fit_take}
use Rattle.window.specs.Words.{Words}
use Rattle.word.specs.Fill.{fill, read, capacity, put}
use Rattle.word.proofs.Filling.{length_fill, capacity_le}
use Rattle.word.proofs.SecondBits.{length_put, read_put, put_fit}
use Rattle.rows.specs.Page.{fill_all, sum_over, capacity_all, read_all, put_all}
use Rattle.rows.proofs.EachWord.{Row}

-- ---- one more word, as a loop over the words goes on

pub fill_all_more : (ws : List (List Bool)) (w : List Bool) → fill_all (ws ++ (w ∷ [])) ≡ fill_all ws ++ (fill w ∷ [])
unfolding fill_all
fill_all_more [] w = refl
fill_all_more (v ∷ ws) w = ap (λ (r : List (List Bool)). fill v ∷ r) (fill_all_more ws w)

pub read_all_more : (ws : List (List Bool)) (w : List Bool) → read_all (ws ++ (w ∷ [])) ≡ read_all ws ++ read w
unfolding read_all
read_all_more [] w = append-nil (read w)
read_all_more (v ∷ ws) w = ap (λ (r : List Bool). read v ++ r) (read_all_more ws w) ∙ sym (append_assoc (read v) (read_all ws) (read w))

pub put_all_more : (ws : List (List Bool)) (w l : List Bool)
    → put_all (ws ++ (w ∷ [])) l ≡ put_all ws l ++ (put w (drop (length (read_all ws)) l) ∷ [])
unfolding put_all read_all
put_all_more [] w l = refl
put_all_more (v ∷ ws) w l =
    let k : length (read v) + length (read_all ws) ≡ length (read v ++ read_all ws) = sym (length-append (read v) (read_all ws)) in
    let d : drop (length (read_all ws)) (drop (length (read v)) l) ≡ drop (length (read v ++ read_all ws)) l =
    drop-drop (length (read_all ws)) (length (read v)) l ∙ ap (λ (j : ℕ). drop j l) k in
    ap (λ (r : List (List Bool)). put v l ∷ r)
    (put_all_more ws w (drop (length (read v)) l)
    ∙ ap (λ (x : List Bool). put_all ws (drop (length (read v)) l) ++ (put w x ∷ [])) d)

-- ---- lengths

pub length_fill_all : (ws : List (List Bool)) → length (fill_all ws) ≡ length ws
unfolding fill_all
length_fill_all [] = refl
length_fill_all (w ∷ ws) = ap suc (length_fill_all ws)

pub length_put_all : (ws : List (List Bool)) (l : List Bool) → length (put_all ws l) ≡ length ws
unfolding put_all
length_put_all [] l = refl
length_put_all (w ∷ ws) l = ap suc (length_put_all ws (drop (length (read w)) l))

pub Words-fill_all : (ws : List (List Bool)) → Words ws → Words (fill_all ws)
unfolding fill_all fill
Words-fill_all [] h = tt
Words-fill_all (w ∷ ws) h = (length_fill false w ∙ h.0, Words-fill_all ws h.1)

pub Words-put_all : (ws : List (List Bool)) (l : List Bool) → Words ws → Words (put_all ws l)
unfolding put_all put
Words-put_all [] l h = tt
Words-put_all (w ∷ ws) l h = (length_put false w l ∙ h.0, Words-put_all ws (drop (length (read w)) l) h.1)

-- words of 46 cells have at most 23 data cells each
pub read_most : (ws : List (List Bool)) → Words ws → length (read_all ws) ≤ 23 * length ws
unfolding read_all read
read_most [] h = omega arith
read_most (w ∷ ws) h = omega (arith, length-append (read w) (read_all ws), capacity_le false w, h.0, read_most ws h.1)

-- n words with second bits are n words
pub row_put_all : (n : ℕ) (ws : List (List Bool)) (l : List Bool) → Row n ws → Row n (put_all ws l)
row_put_all n ws l r = (length_put_all ws l ∙ r.0, Words-put_all ws l r.1)

-- ---- putting and reading

read_put_all : (ws : List (List Bool)) (l : List Bool) → read_all (put_all ws l) ≡ fit (length (read_all ws)) l
unfolding read_all put_all read put fit
read_put_all [] l = refl
read_put_all (w ∷ ws) l =
    ap₂ (λ (a b : List Bool). a ++ b) (read_put false w l) (read_put_all ws (drop (length (read w)) l))
    ∙ sym (fit_add (length (read w)) (length (read_all ws)) l)
    ∙ ap (λ (k : ℕ). fit k l) (sym (length-append (read w) (read_all ws)))

-- the capacity of words counts their data cells after the fill
pub capacity_count : (ws : List (List Bool)) → capacity_all ws ≡ length (read_all (fill_all ws))
unfolding sum_over read_all fill_all capacity
capacity_count [] = refl
capacity_count (w ∷ ws) = omega (arith, length-append (read (fill w)) (read_all (fill_all ws)), capacity_count ws)

-- bits put into filled words are read back
pub read_back : (ws : List (List Bool)) (l : List Bool) → read_all (put_all (fill_all ws) l) ≡ fit (capacity_all ws) l
read_back ws l = read_put_all (fill_all ws) l ∙ ap (λ (k : ℕ). fit k l) (sym (capacity_count ws))

-- a word with as many bits put as it has data cells: those after them are not looked at
pub put_front : (w a b : List Bool) → length a ≡ length (read w) → put w (a ++ b) ≡ put w a
unfolding read put
put_front w a b e =
    let f : fit (length (read w)) (a ++ b) ≡ fit (length (read w)) a =
    fit_take (length (read w)) (a ++ b) (omega (arith, length-append a b))
    ∙ take_at a b (length (read w)) e
    ∙ sym (fit_take (length (read w)) a (omega arith) ∙ take_all (length (read w)) a (omega arith)) in
    sym (put_fit false w (a ++ b)) ∙ ap (put w) f ∙ put_fit false w a

-- putting looks only at as many bits as there are data cells
put_all_fit : (ws : List (List Bool)) (l : List Bool) → put_all ws (fit (length (read_all ws)) l) ≡ put_all ws l
unfolding read_all put_all read put
put_all_fit [] l = refl
put_all_fit (w ∷ ws) l =
    let n = length (read w) in
    let d = fit (length (read_all ws)) (drop n l) in
    let e : fit (length (read w ++ read_all ws)) l ≡ fit n l ++ d =
    ap (λ (k : ℕ). fit k l) (length-append (read w) (read_all ws)) ∙ fit_add n (length (read_all ws)) l in
    ap₂ (λ (x : List Bool) (r : List (List Bool)). x ∷ r)
    (ap (put w) e ∙ put_front w (fit n l) d (length_fit n l) ∙ put_fit false w l)
    (ap (λ (r : List Bool). put_all ws (drop n r)) e ∙ ap (put_all ws) (drop_at (fit n l) d n (length_fit n l)) ∙ put_all_fit ws (drop n l))

-- the spare bits are 0: they need not be given
pub put_all_spare : (ws : List (List Bool)) (k : ℕ) (l : List Bool) → some_set (drop k l) ≡ false → put_all ws (take k l) ≡ put_all ws l
put_all_spare ws k l h =
    sym (put_all_fit ws (take k l)) ∙ ap (put_all ws) (fit_spare (length (read_all ws)) k l h) ∙ put_all_fit ws l
