-- Laws of choosing a page.
-- Assumes nothing.
use mathlib.Core.Bool.{Bool, true, false, cond}
use mathlib.Core.List.{List}
use mathlib.Core.Logic.{◌⊎◌, inl, inr, ⊎_elim}
use mathlib.Core.Path.{◌≡◌, refl, sym, ap, ap₂, ◌∙◌, subst}
use Prim.Native.Nat.{ℕ, zero, suc, ◌*◌, ◌≤◌, ◌<◌}
use native.Mathlib.Omega.{arith}
use borrow.Author.Tests.{le-leb, lt-leb, lt-ltb, le-ltb, leb-true, leb-false, ltb-true, ltb-false}
use lib.Dec.{leb, ltb}
use lib.ListN.{length}
use Rattle.std.specs.Prelude.{Some, None, Result, Ok, Err}
use Rattle.std.specs.Result.{result_ok}
use Rattle.answer.specs.declared.Refusal.{Refusal}
use Rattle.cells.proofs.Tests.{lt_cases}
use Rattle.answer.specs.Answer.{Answer, refusal, answer, answer_of}
use Rattle.rows.specs.declared.shape.Shape.{Shape}
use Rattle.rows.specs.Page.{page256, state, state_filled}
use Rattle.rows.proofs.Shapes.{sound256, own_shape}
use Rattle.page.specs.Answer.{first_checks}
use Rattle.page.proofs.FirstAnswers.{check_refusals}
use Rattle.filled.specs.Answer.{room_first, capacity_checks, room_of, page_capacity_answer}
use Rattle.filled.proofs.FilledAnswers.{as_first}
use Rattle.block.specs.Block.{page_at, marked, Offer, Room, Choice, Page, Nothing, offer_of, offer_at, better, chosen}
use Rattle.block.specs.Claims.{Fitting, Before, Best, NoneFits}
use Rattle.block.proofs.Pages.{length_page_at}

-- ---- one page more

module _ (size i : ℕ) (c : Choice) (o : Offer) where
  pub keep_passed : o ≡ None → better size c o i ≡ c
  unfolding better
  keep_passed e = ap (λ (p : Offer). better size c p i) e ∙ go c
    where
      go : (d : Choice) → better size d None i ≡ d
      go None = refl
      go (Some b) = refl

  module _ (room : ℕ) (e : o ≡ Room room) where
    pub keep_small : room < 8 * size → better size c o i ≡ c
    unfolding better
    keep_small h = ap (λ (p : Offer). better size c p i) e ∙ go c
      where
        go : (d : Choice) → better size d (Room room) i ≡ d
        go None = rw (lt-leb (8 * size) room h) refl
        go (Some b) = rw (lt-leb (8 * size) room h) refl

    -- of a choice that is known
    known : (d : Choice) → c ≡ d → better size c o i ≡ better size d (Room room) i
    known d q = ap₂ (λ (x : Choice) (p : Offer). better size x p i) q e

    pub take_first : 8 * size ≤ room → c ≡ Nothing → better size c o i ≡ Page i room
    unfolding better
    take_first h q = known Nothing q ∙ rw (le-leb (8 * size) room h) refl

    pub take_less : 8 * size ≤ room → (j m : ℕ) → c ≡ Page j m → room < m → better size c o i ≡ Page i room
    unfolding better
    take_less h j m q l = known (Page j m) q ∙ rw (le-leb (8 * size) room h, lt-ltb room m l) refl

    pub keep_least : 8 * size ≤ room → (j m : ℕ) → c ≡ Page j m → m ≤ room → better size c o i ≡ Page j m
    unfolding better
    keep_least h j m q l = known (Page j m) q ∙ rw (le-leb (8 * size) room h, le-ltb room m l) refl

-- ---- the best of the first n

-- what is known of a choice among the first n
abbrev pub Right : ℕ → (ℕ → Offer) → ℕ → Choice → Type 0
Right size offers n None = NoneFits size offers n
Right size offers n (Some c) = Best size offers n c.index c.room

module _ (size : ℕ) (offers : ℕ → Offer) where
  -- a page that fits among one more is the last, or one of those before
  either : (n j other : ℕ) → Fitting size offers (suc n) j other → (j ≡ n) ⊎ Fitting size offers n j other
  either n j other h = ⊎_elim (λ e. inl e) (λ l. inr (record { there = l; offers_it = h.offers_it; enough = h.enough })) (lt_cases h.there)

  still_fits : (n j other : ℕ) → Fitting size offers n j other → Fitting size offers (suc n) j other
  still_fits n j other h = record { there = omega (arith, h.there); offers_it = h.offers_it; enough = h.enough }

  -- what the last page offers is told once
  same_room : (n room j other : ℕ) → offers n ≡ Room room → j ≡ n → Fitting size offers (suc n) j other → room ≡ other
  same_room n room j other e q g = let z : Room room ≡ Room other = sym e ∙ ap offers (sym q) ∙ g.offers_it in cc

  -- the last page does not fit
  module _ (n : ℕ) (unfit : (room : ℕ) → offers n ≡ Room room → 8 * size ≤ room → ⊥) where
    fit_before : (j other : ℕ) → Fitting size offers (suc n) j other → Fitting size offers n j other
    fit_before j other h = ⊎_elim (λ e. absurd (unfit other (ap offers (sym e) ∙ h.offers_it) h.enough)) (λ g. g) (either n j other h)

    stays : (c : Choice) → Right size offers n c → Right size offers (suc n) c
    stays None r = λ j other h. r j other (fit_before j other h)
    stays (Some c) r = record { fits = still_fits n c.index c.room r.fits; least = λ j other h. r.least j other (fit_before j other h) }

  -- it fits
  module _ (n room : ℕ) (e : offers n ≡ Room room) (h : 8 * size ≤ room) where
    last_fits : Fitting size offers (suc n) n room
    last_fits = record { there = omega arith; offers_it = e; enough = h }

    -- it is the best where it comes before all that were there
    last_best : ((j other : ℕ) → Fitting size offers n j other → Before n room j other) → Best size offers (suc n) n room
    last_best b = record {
      fits = last_fits;
      least = λ j other g. ⊎_elim (λ q. inr (same_room n room j other e q g, omega (arith, q))) (λ f. b j other f) (either n j other g);
    }

    one_more : (c : Choice) → Right size offers n c → Right size offers (suc n) (better size c (Room room) n)
    one_more None r =
        subst (Right size offers (suc n)) (sym (take_first size n Nothing (Room room) room refl h refl)) (last_best (λ j other f. absurd (r j other f)))
    one_more (Some c) r = go (ltb room c.room) refl
      where
        below : room < c.room → (j other : ℕ) → Fitting size offers n j other → Before n room j other
        below l j other f = ⊎_elim (λ k. inl (omega arith)) (λ k. inl (omega arith)) (r.least j other f)

        above : c.room ≤ room → (j other : ℕ) → j ≡ n → room ≡ other → Before c.index c.room j other
        above l j other q y = ⊎_elim (λ k. inl (omega arith)) (λ k. inr (omega arith, omega (arith, r.fits.there))) (apart (ltb c.room room) refl)
          where
            apart : (b : Bool) → ltb c.room room ≡ b → (c.room < room) ⊎ (c.room ≡ room)
            apart true k = inl (ltb-true c.room room k)
            apart false k = let v = ltb-false c.room room k in inr (omega arith)

        go : (b : Bool) → ltb room c.room ≡ b → Right size offers (suc n) (better size (Some c) (Room room) n)
        go true q =
            let l = ltb-true room c.room q in
            subst (Right size offers (suc n)) (sym (take_less size n (Some c) (Room room) room refl h c.index c.room refl l)) (last_best (below l))
        go false q =
            let l = ltb-false room c.room q in
            subst (Right size offers (suc n)) (sym (keep_least size n (Some c) (Room room) room refl h c.index c.room refl l)) (record {
              fits = still_fits n c.index c.room r.fits;
              least = λ j other g. ⊎_elim (λ p. above l j other p (same_room n room j other e p g)) (λ f. r.least j other f) (either n j other g);
            })

  pub right : (n : ℕ) → Right size offers n (chosen size offers n)
  unfolding chosen
  right zero = λ j other h. omega (arith, h.there)
  right (suc n) = go (offers n) refl (right n)
    where
      go : (o : Offer) → offers n ≡ o → Right size offers n (chosen size offers n) → Right size offers (suc n) (better size (chosen size offers n) o n)
      go None e r =
          subst (Right size offers (suc n)) (sym (keep_passed size n (chosen size offers n) None refl))
          (stays n (λ other q h. let z : None ≡ Room other = sym e ∙ q in let y : ◌≡◌ {A = ℕ} 0 1 = cc in omega arith) (chosen size offers n) r)
      go (Some room) e r = fit (leb (8 * size) room) refl
        where
          fit : (b : Bool) → leb (8 * size) room ≡ b → Right size offers (suc n) (better size (chosen size offers n) (Room room) n)
          fit true q = one_more n room e (leb-true (8 * size) room q) (chosen size offers n) r
          fit false q =
              let l = leb-false (8 * size) room q in
              subst (Right size offers (suc n)) (sym (keep_small size n (chosen size offers n) (Room room) room refl l))
              (stays n (λ other p h. let z : Room room ≡ Room other = sym e ∙ p in let y : room ≡ other = cc in omega arith) (chosen size offers n) r)

  pub chosen_best : (n i room : ℕ) → chosen size offers n ≡ Page i room → Best size offers n i room
  chosen_best n i room e = subst (Right size offers n) e (right n)

  -- ---- from what is known of a choice to the choice

  pub none_chosen : (n : ℕ) (c : Choice) → Right size offers n c → NoneFits size offers n → c ≡ Nothing
  none_chosen n None r h = refl
  none_chosen n (Some c) r h = absurd (h c.index c.room r.fits)

  pub best_chosen : (n : ℕ) (c : Choice) → Right size offers n c → (i room : ℕ) → Best size offers n i room → c ≡ Page i room
  best_chosen n None r i room b = absurd (r i room b.fits)
  best_chosen n (Some c) r i room b =
      let both = meet c.index c.room (r.least i room b.fits) (b.least c.index c.room r.fits) in ap₂ (λ (x y : ℕ). Page x y) both.0 both.1
    where
      meet : (j m : ℕ) → Before j m i room → Before i room j m → (j ≡ i) × (m ≡ room)
      meet j m p q = ⊎_elim (λ k. ⊎_elim (λ l. omega arith) (λ l. omega arith) q) (λ k. ⊎_elim (λ l. omega arith) (λ l. (omega arith, omega arith)) q) p

-- ---- what a page offers

-- page capacity measures a page of 256 bytes that is not filled as a first-round page
pub measured_first : (P : List ℕ) → length P ≡ 256 → ¬ (state P ≡ state_filled)
    → page_capacity_answer P ≡ answer (first_checks page256 P) (room_first page256 P)
measured_first P l n = ap (λ (s : Shape). answer (capacity_checks s P) (room_of s P)) (own_shape sound256 P l) ∙ as_first page256 P n

-- what the library makes of a result is the offer of its answer
pub ok_offers : (r : Result ℕ Refusal) → result_ok r ≡ offer_of (answer_of r)
ok_offers (Ok x) = refl
ok_offers (Err e) = refl

module _ (block : List ℕ) (marks i : ℕ) where
  abbrev P : List ℕ
  P = page_at block i

  pub not_marked : false ≡ marked marks i → None ≡ offer_at block marks i
  unfolding offer_at
  not_marked e = rw (sym e) refl

  module _ (l : length block ≡ 4096) (b : i < 16) where
    sized : length P ≡ 256
    sized = length_page_at block i (omega arith)

    -- a filled page is passed over, marked or not
    pub filled_passed : state P ≡ state_filled → None ≡ offer_at block marks i
    unfolding offer_at
    filled_passed e = sym (ap (λ (a : Answer). cond (marked marks i) (offer_of a) None) refused ∙ either_way (marked marks i))
      where
        refused : answer (first_checks page256 P) (room_first page256 P) ≡ refusal 5 0
        refused =
            ((check_refusals page256 P (room_first page256 P)).five 0).1 (sized, λ q. let z : ◌≡◌ {A = ℕ} 3 1 = sym e ∙ q in omega arith, refl)

        either_way : (m : Bool) → cond {A = Offer} m None None ≡ None
        either_way true = refl
        either_way false = refl

    -- any other page is measured
    pub is_measured : true ≡ marked marks i → ¬ (state P ≡ state_filled) → offer_of (page_capacity_answer P) ≡ offer_at block marks i
    unfolding offer_at
    is_measured e f = rw (sym e) (ap offer_of (measured_first P sized f))
