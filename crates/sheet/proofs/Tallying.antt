-- Tallies: one more page, how far the counts and the gain can go, and the turns. Assumes nothing.
use mathlib.Core.Bool.{true}
use mathlib.Core.List.{List, [], ◌∷◌, ◌++◌}
use mathlib.Core.Logic.{inl}
use mathlib.Core.Path.{◌≡◌, refl, sym, ap, ap₂, ◌∙◌}
use Prim.Native.Nat.{ℕ, zero, suc, ◌+◌, ◌*◌, ◌^◌, ◌≤◌, ◌<◌}
use native.Mathlib.Omega.{arith}
use lib.IntN.{ℤ, pos, nat_abs, ◌+ℤ◌, +ℤ_idl, +ℤ_idr, +ℤ_assoc}
use lib.ListN.{length, take, drop}
use mir.Facts.{to_z-of_z}
use mir.Syntax.{w64}
use mir.Val.{SFits, to_z, of_z}
use Rattle.std.specs.Prelude.{None}
use Rattle.report.specs.Kinds.{kind_of}
use Rattle.report.specs.Listing.{pieces_from, pieces_of, next_turn, refilled}
use Rattle.report.specs.declared.Kind.{Kind}
use Rattle.report.specs.declared.Kind.TheVariants.{Blank, First, Filled, Second, Bad}
use Rattle.report.proofs.Deciding.{second_short}
use Rattle.report.proofs.Listings.{pieces_none, pieces_count, pieces_more, due, came, after_piece}
use Rattle.sheet.specs.declared.Tally.{Tally}
use Rattle.sheet.specs.Sheet.{first_gain, gain_of, no_pages, counted, tallied, tally_from, tally_of, Tallies, turn_tally, turns_tally}
use Rattle.sheet.specs.Claims.{sum_by, gains}
use Rattle.sheet.proofs.Sums.{far_sum, near_fits}

-- ---- one more page

-- at the end
tally_append : (t : Tally) (ps : List (List ℕ)) (piece : List ℕ) → tally_from t (ps ++ piece ∷ []) ≡ tallied (tally_from t ps) (kind_of piece)
unfolding tally_from
tally_append t [] piece = refl
tally_append t (p ∷ ps) piece = tally_append (tallied t (kind_of p)) ps piece

-- n whole pages of an input, then a page or a piece of one
pub tally_more : (n : ℕ) (P l : List ℕ) → length P ≡ n * 256 → n < 4096 → 0 < length l → length l ≤ 256
    → tally_of (pieces_of (P ++ l)) ≡ tallied (tally_of (pieces_of P)) (kind_of l)
unfolding pieces_of
tally_more n P l e m some h = ap tally_of (pieces_more n 4096 P l e m some h) ∙ tally_append no_pages (pieces_from 4096 P) l

-- that of n whole pages is one of n at most
pub tally_whole : (n : ℕ) {t : Tally} (P : List ℕ) → length P ≡ n * 256 → n ≤ 4095 → t ≡ tally_of (pieces_of P) → Tallies 4095 t
unfolding pieces_of
tally_whole n P e m all = record { pieces = pieces_of P; few = omega (arith, pieces_count n 4096 P e, m); all = all }

-- ---- the counts

-- counting a kind leaves the pages and the gain as they were
pub kept : (t : Tally) (k : Kind) → ((counted t k).pages ≡ t.pages) × ((counted t k).gain ≡ t.gain)
kept t Blank = (refl, refl)
kept t (First n) = (refl, refl)
kept t (Filled n) = (refl, refl)
kept t (Second n) = (refl, refl)
kept t (Bad n) = (refl, refl)

-- a count that grows with each page by what its kind adds
pub counted_up : (count : Tally → ℕ) (by : Kind → ℕ) → ((t : Tally) (k : Kind) → count (tallied t k) ≡ count t + by k)
    → (t : Tally) (ps : List (List ℕ)) → count (tally_from t ps) ≡ count t + sum_by by ps
unfolding tally_from sum_by
counted_up count by step t [] = omega arith
counted_up count by step t (p ∷ ps) = omega (arith, counted_up count by step (tallied t (kind_of p)) ps, step t (kind_of p))

-- what grows by 1 grows by the number of pages
sum_ones : (ps : List (List ℕ)) → sum_by (λ _. 1) ps ≡ length ps
unfolding sum_by
sum_ones [] = refl
sum_ones (p ∷ ps) = omega (arith, sum_ones ps)

pub pages_counted : (ps : List (List ℕ)) → (tally_of ps).pages ≡ length ps
pages_counted ps = omega (arith, counted_up (λ t. t.pages) (λ _. 1) (λ t k. ap (λ (n : ℕ). n + 1) (kept t k).0) no_pages ps, sum_ones ps)

-- the five counts together
abbrev pub total : Tally → ℕ
total t = t.blank + t.first + t.filled + t.second + t.bad

one_counted : (t : Tally) (k : Kind) → total (tallied t k) ≡ total t + 1
one_counted t Blank = omega arith
one_counted t (First n) = omega arith
one_counted t (Filled n) = omega arith
one_counted t (Second n) = omega arith
one_counted t (Bad n) = omega arith

pub total_counted : (ps : List (List ℕ)) → total (tally_of ps) ≡ length ps
total_counted ps = omega (arith, counted_up total (λ _. 1) one_counted no_pages ps, sum_ones ps)

-- ---- the gain

pub gain_from : (t : Tally) (ps : List (List ℕ)) → (tally_from t ps).gain ≡ t.gain +ℤ gains ps
unfolding tally_from gains
gain_from t [] = sym (+ℤ_idr t.gain)
gain_from t (p ∷ ps) =
    gain_from (tallied t (kind_of p)) ps
    ∙ ap (λ (g : ℤ). g +ℤ gain_of (kind_of p) +ℤ gains ps) (kept t (kind_of p)).1
    ∙ +ℤ_assoc t.gain (gain_of (kind_of p)) (gains ps)

-- a page's gain is at most 640 and 8 times 247 from 0
far_kind : (k : Kind) → ((n : ℕ) → k ≡ Second n → n ≤ 247) → nat_abs (gain_of k) ≤ 2616
far_kind Blank h = omega arith
far_kind (First c) h = omega arith
far_kind (Filled c) h = omega arith
far_kind (Second n) h = let l = h n refl in omega (arith, far_sum first_gain (pos (8 * n)))
far_kind (Bad c) h = omega arith

-- and the sum no further than all of them
far_gains : (ps : List (List ℕ)) → nat_abs (gains ps) ≤ length ps * 2616
unfolding gains
far_gains [] = omega arith
far_gains (p ∷ ps) =
    omega (arith, far_sum (gain_of (kind_of p)) (gains ps), far_kind (kind_of p) (second_short p), far_gains ps)

-- ---- a tally of fewer than 4,096 pages

module _ {t : Tally} (h : Tallies 4095 t) where
  pub pages_fit : t.pages ≤ 4095
  pages_fit = omega (arith, ap (λ (s : Tally). s.pages) h.all, pages_counted h.pieces, h.few)

  pub counts_fit : total t ≤ 4095
  counts_fit = omega (arith, ap total h.all, total_counted h.pieces, h.few)

  far_gain : nat_abs t.gain ≤ 4095 * 2616
  far_gain =
      let g : t.gain ≡ gains h.pieces = ap (λ (s : Tally). s.gain) h.all ∙ gain_from no_pages h.pieces ∙ +ℤ_idl (gains h.pieces) in
      omega (arith, ap nat_abs g, far_gains h.pieces, h.few)

  -- the gain after one more page, as numbers are held
  held_sum : (g : ℤ) → nat_abs g < 2 ^ 36 → to_z w64 (of_z w64 t.gain) +ℤ to_z w64 (of_z w64 g) ≡ t.gain +ℤ g
  held_sum g near = ap₂ (λ (y z : ℤ). y +ℤ z) (to_z-of_z (near_fits t.gain (omega (arith, far_gain)))) (to_z-of_z (near_fits g (omega (arith, near))))

  pub gain_fits : (g : ℤ) → nat_abs g < 2 ^ 36 → SFits w64 (to_z w64 (of_z w64 t.gain) +ℤ to_z w64 (of_z w64 g))
  gain_fits g near = rw (held_sum g near) (near_fits (t.gain +ℤ g) (omega (arith, far_sum t.gain g, far_gain, near)))

  pub gain_put : (g : ℤ) → nat_abs g < 2 ^ 36 → to_z w64 (of_z w64 (to_z w64 (of_z w64 t.gain) +ℤ to_z w64 (of_z w64 g))) ≡ t.gain +ℤ g
  gain_put g near = to_z-of_z (gain_fits g near) ∙ held_sum g near

-- what shows that no sum leaves its width
pub ruleset tally_fits = (counts_fit, gain_fits, gain_put)

-- ---- the turns

-- nothing came, or a piece
pub turn_none : (t : Tally) (l : List ℕ) → length l ≡ 0 → turn_tally t l ≡ t
unfolding turn_tally
turn_none t [] e = refl
turn_none t (b ∷ l) e = absurd (omega arith)

pub turn_some : (t : Tally) (l : List ℕ) → ¬ (length l ≡ 0) → turn_tally t l ≡ tallied t (kind_of l)
unfolding turn_tally
turn_some t [] e = absurd (e refl)
turn_some t (b ∷ l) e = refl

-- a turn, and what is left
tally_turn : (k : ℕ) (t : Tally) (l : List ℕ) → tally_from t (pieces_from (suc k) l) ≡ tally_from (turn_tally t (take 256 l)) (pieces_from k (drop 256 l))
unfolding tally_from pieces_from turn_tally
tally_turn k t [] = sym (ap (tally_from t) (pieces_none k))
tally_turn k t (b ∷ l) = refl

turns_end : (k : ℕ) (t : Tally) (page l : List ℕ) → turns_tally k None t page l ≡ t
unfolding turns_tally
turns_end zero t page l = refl
turns_end (suc k) t page l = refl

-- all of them leave the tally of the pieces
pub turns_tally_lem : (m k index : ℕ) (t : Tally) (page l : List ℕ) → m ≤ k → index + m ≡ 4096 → turns_tally k (due m index) t page l ≡ tally_from t (pieces_from m l)
unfolding turns_tally tally_from pieces_from
turns_tally_lem zero k index t page l h e = turns_end k t page l
turns_tally_lem (suc m) zero index t page l h e = absurd (omega arith)
turns_tally_lem (suc m) (suc k) index t page l h e =
    let t' = turn_tally t (take 256 l) in
    ap (λ (p : List ℕ). turns_tally k (next_turn index (length (take 256 l)) true) (turn_tally t p) (refilled page l) (drop 256 l)) (came page l)
    ∙ after_piece (λ _. true) 4095 (omega arith) (λ i b. refl) (inl refl)
    (λ u. turns_tally k u t' (refilled page l) (drop 256 l)) (tally_from t' (pieces_from m (drop 256 l))) m index l e
    (λ none. turns_end k t' (refilled page l) (drop 256 l) ∙ sym (ap (λ (r : List ℕ). tally_from t' (pieces_from m r)) none ∙ ap (tally_from t') (pieces_none m)))
    (turns_tally_lem m k (suc index) t' (refilled page l) (drop 256 l) (omega arith) (omega arith))
    ∙ sym (tally_turn m t l)
