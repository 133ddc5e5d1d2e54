-- The whole listing: page by page, its end, and the turns that write it. Assumes nothing.
use mathlib.Core.Bool.{Bool, true, false}
use mathlib.Core.List.{List, [], ◌∷◌, ◌++◌, append-nil, append_assoc}
use mathlib.Core.Logic.{◌⊎◌, ⊎_elim}
use mathlib.Core.Path.{◌≡◌, refl, sym, ap, ap₂, ◌∙◌}
use Prim.Native.Nat.{ℕ, zero, suc, ◌+◌, ◌*◌, ◌-◌, ◌≤◌, ◌<◌}
use native.Mathlib.Numerals.{add-one}
use native.Mathlib.Omega.{arith}
use borrow.Author.Tests.{ltb-true, ltb-false}
use lib.Dec.{ltb}
use lib.ListN.{length, take, drop, drop_of_length-le, length-append, length-drop, take-append-drop}
use lib.Seq.{length-take-le, take_all, take-append_seam, take-take, take_at, drop_at}
use Rattle.cells.specs.Bytes.{at_start}
use Rattle.window.proofs.Words.{drop_take}
use Rattle.std.specs.Prelude.{Option, Some, None}
use Rattle.report.specs.Kinds.{kind_of}
use Rattle.report.specs.Lines.{line_of}
use Rattle.report.specs.Listing.{pieces_from, lines_from, listing_from, turn_line, next_turn, refilled, turns_from}
use Rattle.report.proofs.Turning.{next_unwritten, next_short, next_last, next_page}

-- ---- page by page

-- no input, no page
pub pieces_none : (k : ℕ) → pieces_from k [] ≡ []
unfolding pieces_from
pieces_none zero = refl
pieces_none (suc k) = refl

-- the first piece, and what follows
pieces_some : (k : ℕ) (l : List ℕ) → 0 < length l → pieces_from (suc k) l ≡ take 256 l ∷ pieces_from k (drop 256 l)
unfolding pieces_from
pieces_some k [] h = absurd (omega arith)
pieces_some k (b ∷ l) h = refl

-- a whole page
pub pieces_page : (k : ℕ) (P l : List ℕ) → length P ≡ 256 → pieces_from (suc k) (P ++ l) ≡ P ∷ pieces_from k l
pieces_page k P l sized =
    pieces_some k (P ++ l) (omega (arith, sized, length-append P l))
    ∙ ap₂ (λ (p r : List ℕ). p ∷ pieces_from k r) (take_at P l 256 sized) (drop_at P l 256 sized)

-- a last piece, of a page or less
pub pieces_last : (k : ℕ) (l : List ℕ) → 0 < length l → length l ≤ 256 → pieces_from (suc k) l ≡ l ∷ []
pieces_last k l some h =
    pieces_some k l some
    ∙ ap₂ (λ (p : List ℕ) (ps : List (List ℕ)). p ∷ ps) (take_all 256 l h) (ap (pieces_from k) (drop_of_length-le l h) ∙ pieces_none k)

-- what lies beyond the pages to be listed does not count
pub pieces_most : (k n : ℕ) (l : List ℕ) → k * 256 ≤ n → pieces_from k (take n l) ≡ pieces_from k l
unfolding pieces_from
pieces_most zero n l h = refl
pieces_most (suc k) n [] h = ap (pieces_from (suc k)) (take_all n [] (omega arith))
pieces_most (suc k) zero (b ∷ l) h = absurd (omega arith)
pieces_most (suc k) (suc n) (b ∷ l) h =
    let split : suc n ≡ 256 + (suc n - 256) = omega arith in
    let tail : drop 256 (take (suc n) (b ∷ l)) ≡ take (suc n - 256) (drop 256 (b ∷ l))
    = ap (λ (m : ℕ). drop 256 (take m (b ∷ l))) split ∙ drop_take 256 (suc n - 256) (b ∷ l) in
    pieces_some k (take (suc n) (b ∷ l)) (omega arith)
    ∙ ap₂ (λ (p : List ℕ) (ps : List (List ℕ)). p ∷ ps) (take-take 256 (suc n) (b ∷ l) (omega arith))
    (ap (pieces_from k) tail ∙ pieces_most k (suc n - 256) (drop 256 (b ∷ l)) (omega arith))

-- no more than asked for
pub pieces_few : (k : ℕ) (l : List ℕ) → length (pieces_from k l) ≤ k
unfolding pieces_from
pieces_few zero l = omega arith
pieces_few (suc k) [] = omega arith
pieces_few (suc k) (b ∷ l) = let h = pieces_few k (drop 256 (b ∷ l)) in omega arith

-- n whole pages are n
pub pieces_count : (n k : ℕ) (P : List ℕ) → length P ≡ n * 256 → length (pieces_from k P) ≤ n
unfolding pieces_from
pieces_count n zero P e = omega arith
pieces_count n (suc k) [] e = omega arith
pieces_count zero (suc k) (b ∷ P) e = absurd (omega arith)
pieces_count (suc n) (suc k) (b ∷ P) e =
    let h = pieces_count n k (drop 256 (b ∷ P)) (omega (arith, length-drop 256 (b ∷ P), e)) in
    omega arith

-- n whole pages, and a last piece
pub pieces_more : (n k : ℕ) (P l : List ℕ) → length P ≡ n * 256 → n < k → 0 < length l → length l ≤ 256
    → pieces_from k (P ++ l) ≡ pieces_from k P ++ l ∷ []
pieces_more n zero P l e m some h = absurd (omega arith)
pieces_more zero (suc k) [] l e m some h = pieces_last k l some h ∙ sym (ap (λ (ps : List (List ℕ)). ps ++ l ∷ []) (pieces_none (suc k)))
pieces_more zero (suc k) (b ∷ P) l e m some h = absurd (omega arith)
pieces_more (suc n) (suc k) P l e m some h =
    let page : length (take 256 P) ≡ 256 = length-take-le 256 P (omega arith) in
    let joined : take 256 P ++ (drop 256 P ++ l) ≡ P ++ l = sym (append_assoc (take 256 P) (drop 256 P) l) ∙ ap (λ (s : List ℕ). s ++ l) (take-append-drop 256 P) in
    ap (pieces_from (suc k)) (sym joined)
    ∙ pieces_page k (take 256 P) (drop 256 P ++ l) page
    ∙ ap (λ (ps : List (List ℕ)). take 256 P ∷ ps) (pieces_more n k (drop 256 P) l (omega (arith, length-drop 256 P)) (omega arith) some h)
    ∙ sym (ap (λ (ps : List (List ℕ)). ps ++ l ∷ []) (pieces_some k P (omega arith)))

-- a whole page's line
pub listing_page : (k index : ℕ) (P l : List ℕ) → length P ≡ 256
    → listing_from (suc k) index (P ++ l) ≡ line_of index (kind_of P) ++ listing_from k (suc index) l
unfolding lines_from
listing_page k index P l sized = ap (lines_from index) (pieces_page k P l sized)

-- that of a last piece
pub listing_last : (k index : ℕ) (l : List ℕ) → 0 < length l → length l ≤ 256 → listing_from (suc k) index l ≡ line_of index (kind_of l)
unfolding lines_from
listing_last k index l some h = ap (lines_from index) (pieces_last k l some h) ∙ append-nil (line_of index (kind_of l))

-- the first piece's turn, and the listing of what follows
listing_turn : (k index : ℕ) (l : List ℕ) → listing_from (suc k) index l ≡ turn_line index (take 256 l) ++ listing_from k (suc index) (drop 256 l)
unfolding pieces_from lines_from turn_line
listing_turn k index [] = sym (ap (lines_from (suc index)) (pieces_none k))
listing_turn k index (b ∷ l) = refl

-- ---- the turns

-- the turn where so many pages are still to be listed, from an index on
abbrev pub due : ℕ → ℕ → Option ℕ
due zero index = None
due (suc m) index = Some index

turns_end : (w : ℕ → Bool) (k : ℕ) (page l : List ℕ) → turns_from w k None page l ≡ []
unfolding turns_from
turns_end w zero page l = refl
turns_end w (suc k) page l = refl

-- what came is at the refilled buffer's start
pub came : (page l : List ℕ) → take (length (take 256 l)) (refilled page l) ≡ take 256 l
unfolding at_start
came page l = take-append_seam (take 256 l) _

-- the last page to be listed is the 4,096th, or the first whose line cannot be written
module _ (w : ℕ → Bool) (last : ℕ) (limit : last ≤ 4095) (written : (i : ℕ) → i < last → w i ≡ true) (stop : (last ≡ 4095) ⊎ (w last ≡ false)) where
  -- after a whole page
  next_due : (m index n : ℕ) → index + suc m ≡ suc last → n ≡ 256 → next_turn index n (w index) ≡ due m (suc index)
  next_due zero index n e s =
      let same : index ≡ last = omega arith in
      ⊎_elim (λ h. next_last index n (w index) (omega arith)) (λ h. next_unwritten index n (w index) (ap w same ∙ h)) stop
  next_due (suc m) index n e s = next_page index n (w index) (written index (omega arith)) s (omega arith) ∙ ap Some (add-one index)

  -- after any piece: what is so of the turn that is due, and of none where no input is left, is so of the turn that follows
  pub after_piece : {X : Type 0} (F : Option ℕ → X) (x : X) (m index : ℕ) (l : List ℕ) → index + suc m ≡ suc last
      → (drop 256 l ≡ [] → F None ≡ x) → F (due m (suc index)) ≡ x → F (next_turn index (length (take 256 l)) (w index)) ≡ x
  after_piece {X} F x m index l e none more = go (ltb (length l) 256) refl
    where
      go : (b : Bool) → ltb (length l) 256 ≡ b → F (next_turn index (length (take 256 l)) (w index)) ≡ x
      go true t =
          let h = ltb-true (length l) 256 t in
          ap F (next_short index _ (w index) (omega (arith, ap length (take_all 256 l (omega arith))))) ∙ none (drop_of_length-le l {i = 256} (omega arith))
      go false t = ap F (next_due m index _ e (length-take-le 256 l (ltb-false (length l) 256 t))) ∙ more

  -- the turns write the listing
  pub turns_listing : (m k index : ℕ) (page l : List ℕ) → m ≤ k → index + m ≡ suc last → turns_from w k (due m index) page l ≡ listing_from m index l
  unfolding turns_from pieces_from lines_from
  turns_listing zero k index page l h e = turns_end w k page l
  turns_listing (suc m) zero index page l h e = absurd (omega arith)
  turns_listing (suc m) (suc k) index page l h e =
      ap₂ (λ (s t : List ℕ). s ++ t) (ap (turn_line index) (came page l))
      (after_piece (λ t. turns_from w k t (refilled page l) (drop 256 l)) (listing_from m (suc index) (drop 256 l)) m index l e
      (λ none. turns_end w k (refilled page l) (drop 256 l) ∙ sym (ap (listing_from m (suc index)) none ∙ ap (lines_from (suc index)) (pieces_none m)))
      (turns_listing m k (suc index) (refilled page l) (drop 256 l) (omega arith) (omega arith)))
      ∙ sym (listing_turn m index l)
