-- The claims of specs/Claims.antt.
-- Assumes nothing.
use mathlib.Core.Bool.{Bool, true, false, cond}
use mathlib.Core.List.{List, [], ◌∷◌, ◌++◌}
use mathlib.Core.Logic.Iff
use mathlib.Core.Logic.{◌↔◌, ◌⊎◌}
use mathlib.Core.Path.{◌≡◌, refl, sym, ap, ap₂, ◌∙◌, subst}
use Prim.Native.Nat.{ℕ, zero, suc, ◌+◌, ◌-◌, ◌*◌, ◌≤◌, ◌<◌}
use native.Mathlib.Nat.{zero-add, suc-add}
use native.Mathlib.Omega.{arith}
use lib.Dec.{T}
use lib.ListN.{length, take, drop, replicate, length-append}
use lib.Seq.{drop-drop, drop_at}
use Rattle.std.specs.Prelude.{None}
use Rattle.cells.specs.Bytes.{Bytes, zeros, at_start}
use Rattle.cells.proofs.Bytes.{Bytes-take, Bytes-drop}
use Rattle.answer.specs.Answer.{Answer, result, refusal, answer, numbers, among}
use Rattle.answer.proofs.Chains.{no_other, refused_leaves, taken_leaves}
use Rattle.answer.proofs.Tells.{opposite, just, later, nothing_left, flat3}
use Rattle.answer.proofs.Tells as tells
use Rattle.rows.specs.Page.{page256, shape_of, blank_of, FirstRoundOf}
use Rattle.rows.specs.declared.shape.Shape.{Shape}
use Rattle.rows.proofs.Blank.{blank_zeros, length_blank}
use Rattle.rows.proofs.Shapes.{sound256, own_shape}
use Rattle.page.specs.Answer.{first_checks, write_first_checks, write_first_answer, read_first_checks, read_first_answer}
use Rattle.page.proofs.FirstAnswers.{write_first, check_taken, read_first}
use Rattle.filled.specs.Answer.{room_first, page_capacity_answer}
use Rattle.block.specs.Block.{page_at, put_page, marked, Offer, Room, Choice, Page, offer_of, offer_at, chosen, choice_of, index_of, kept_pages, kept_count}
use Rattle.block.specs.Answer.{place_checks, place_answer, both_steps, place_leaves, collect_checks, collect_answer, collect_leaves}
use Rattle.block.specs.Claims.{IsBlock, NoneFits, ChoosesBest, OffersRight, BestPage, PlacesRight, CollectsRight}
use Rattle.block.proofs.Choosing.{Right, right, chosen_best, none_chosen, best_chosen, measured_first}
use Rattle.block.proofs.Pages.{length_page_at, own_page, other_page, length_put_page, length_both}
use Rattle.block.proofs.Placing.{other_length, unchosen}
use Rattle.block.proofs.Collecting.{count_few, count_less, kept_at, length_kept, kept_there, other_lengths}

pub chooses_best : ChoosesBest
chooses_best = record {
  best = λ size offers n i room. (chosen_best size offers n i room, best_chosen size offers n (chosen size offers n) (right size offers n) i room);
  none = λ size offers n. (λ e. subst (Right size offers n) e (right size offers n), none_chosen size offers n (chosen size offers n) (right size offers n));
}

-- ---- offers

module _ (block : List ℕ) (marks i room : ℕ) (b : Bytes block) where
  abbrev P : List ℕ
  P = page_at block i

  bytes_page : Bytes P
  bytes_page = Bytes-take 256 (drop (256 * i) block) (Bytes-drop (256 * i) block b)

  -- ... where m tells whether it is marked
  abbrev Offered : Bool → Type 0
  Offered m = T m × FirstRoundOf page256 P × (room ≡ room_first page256 P)

  offered_by : (m : Bool) → (a : Answer) → answer (first_checks page256 P) (room_first page256 P) ≡ a → (cond m (offer_of a) None ≡ Room room) ↔ Offered m
  offered_by false a ea = (λ e. let z : ◌≡◌ {A = ℕ} 0 1 = cc in absurd (omega arith), λ h. absurd h.0)
  offered_by true (refusal n k) ea = (
    λ e. let z : ◌≡◌ {A = ℕ} 0 1 = cc in absurd (omega arith),
    λ h.
        let z : ◌≡◌ {A = Answer} (refusal n k) (result room) = sym ea ∙ (check_taken page256 P _ room bytes_page).1 (h.1, h.2) in
        let y : ◌≡◌ {A = ℕ} 0 1 = cc in absurd (omega arith),
  )
  offered_by true (result v) ea = (
    λ e. let y : v ≡ room = cc in let w = (check_taken page256 P _ v bytes_page).0 ea in (tt, w.0, sym y ∙ w.1),
    λ h. let w = (check_taken page256 P _ v bytes_page).0 ea in ap Room (w.1 ∙ sym h.2),
  )

  offered : (offer_at block marks i ≡ Room room) ↔ Offered (marked marks i)
  unfolding offer_at
  offered = offered_by (marked marks i) _ refl

  -- by the operations on a page of 256 bytes
  module _ (out : List ℕ) (l : length P ≡ 256) (h : 176 ≤ length out) where
    own : shape_of P ≡ page256
    own = own_shape sound256 P l

    read : (read_first_answer P out ≡ result 0) ↔ FirstRoundOf page256 P
    read = (
      λ e. ((read_first page256 P out 0 bytes_page).0 (ap (λ (s : Shape). answer (read_first_checks s P out) 0) (sym own) ∙ e)).0,
      λ p. ap (λ (s : Shape). answer (read_first_checks s P out) 0) own ∙ (read_first page256 P out 0 bytes_page).1 (p, h, refl),
    )

    measured : FirstRoundOf page256 P → page_capacity_answer P ≡ result (room_first page256 P)
    measured p =
        measured_first P l (λ e. let z : ◌≡◌ {A = ℕ} 1 3 = sym p.in_state ∙ e in omega arith)
        ∙ (check_taken page256 P _ _ bytes_page).1 (p, refl)

    by_operations : (offer_at block marks i ≡ Room room) ↔ (T (marked marks i) × (read_first_answer P out ≡ result 0) × (page_capacity_answer P ≡ result room))
    by_operations = (
      λ e. let o = offered.0 e in (o.0, read.1 o.1, measured o.1 ∙ ap result (sym o.2)),
      λ o. let p = read.0 o.1 in offered.1 (o.0, p, let z : ◌≡◌ {A = Answer} (result room) (result (room_first page256 P)) = sym o.2 ∙ measured p in cc),
    )

pub offers_right : OffersRight
offers_right = record {
  first_round = offered;
  by_operations = λ block out marks i room b k l h. by_operations block marks i room b out (length_page_at block i (omega arith)) h;
}

-- ---- placing

module _ (B R : List ℕ) (marks : ℕ) where
  abbrev offers : ℕ → Offer
  offers = offer_at B marks

  abbrev choice : Choice
  choice = choice_of 16 B marks R

  place_taken : (i : ℕ) → (place_answer B marks R ≡ result i) ↔ (IsBlock B × (((j : ℕ) × ((room : ℕ) × (choice ≡ Page j room))) × (i ≡ index_of choice)))
  unfolding place_checks
  place_taken i =
      let x = index_of choice in tells.taken (other_length B) 17 0 _ x i (tells.taken (unchosen choice) 18 0 [] x i (nothing_left x i))

  place_accepted : (i : ℕ) → (place_answer B marks R ≡ result i) ↔ (IsBlock B × ((room : ℕ) × BestPage B marks R i room))
  place_accepted i = Iff.trans (place_taken i) (λ h. (h.0, forth h.1.0 h.1.1), λ h. (h.0, back h.1.0 h.1.1))
    where
      forth : (j : ℕ) × ((room : ℕ) × (choice ≡ Page j room)) → i ≡ index_of choice → (room : ℕ) × BestPage B marks R i room
      forth (j, (room, e)) q = (room, chosen_best (length R) offers 16 i room (e ∙ ap (λ (k : ℕ). Page k room) (sym (q ∙ ap index_of e))))

      back : (room : ℕ) → BestPage B marks R i room → ((j : ℕ) × ((room : ℕ) × (choice ≡ Page j room))) × (i ≡ index_of choice)
      back room b =
          let e = best_chosen (length R) offers 16 choice (right (length R) offers 16) i room b in ((i, (room, e)), sym (ap index_of e))

  place_17 : (k : ℕ) → (place_answer B marks R ≡ refusal 17 k) ↔ (¬ IsBlock B × (k ≡ 0))
  unfolding place_checks numbers among
  place_17 k = just (other_length B) 17 0 _ (index_of choice) refl k

  place_18 : (k : ℕ) → (place_answer B marks R ≡ refusal 18 k) ↔ (IsBlock B × NoneFits (length R) offers 16 × (k ≡ 0))
  unfolding place_checks numbers among
  place_18 k =
      Iff.trans (later (other_length B) 17 0 _ (index_of choice) 18 k (λ e. omega arith) (just (unchosen choice) 18 0 [] (index_of choice) refl k)) (
        λ h. (h.0, (chooses_best.none _ _ _).0 h.1.0, h.1.1),
        λ h. (h.0, ((chooses_best.none _ _ _).1 h.1, h.2)),
      )

  -- an accepted call
  module _ (i : ℕ) (e : place_answer B marks R ≡ result i) where
    sized : IsBlock B
    sized = ((place_accepted i).0 e).0

    there : i < 16
    there = ((place_accepted i).0 e).1.1.fits.there

    abbrev new : List ℕ
    new = both_steps (page_at B i) R

    index_is : index_of choice ≡ i
    index_is = sym ((place_taken i).0 e).1.1

    pub put_leaves : place_leaves B marks R ≡ put_page B i new
    put_leaves =
        taken_leaves (place_answer B marks R) B (put_page B (index_of choice) (both_steps (page_at B (index_of choice)) R)) i e
        ∙ ap (λ (j : ℕ). put_page B j (both_steps (page_at B j) R)) index_is

    length_new : length new ≡ 256
    length_new = length_both (page_at B i) R (length_page_at B i (omega (arith, sized, there)))

    written : page_at (place_leaves B marks R) i ≡ new
    written = ap (λ (b : List ℕ). page_at b i) put_leaves ∙ own_page B i new there sized length_new

    others : (j : ℕ) → ¬ (j ≡ i) → page_at (place_leaves B marks R) j ≡ page_at B j
    others j n = ap (λ (b : List ℕ). page_at b j) put_leaves ∙ other_page B i new there sized length_new j n

    still : IsBlock (place_leaves B marks R)
    still = ap length put_leaves ∙ length_put_page B i new there sized length_new

pub places_right : PlacesRight
unfolding place_checks numbers
places_right = record {
  accepted = place_accepted;
  refused_17 = place_17;
  refused_18 = place_18;
  no_other = λ B R marks. no_other (place_checks 16 B marks R) (index_of (choice_of 16 B marks R));
  written = written;
  others = λ B R marks i j e n. others B R marks i e j n;
  still_block = still;
  refused_leaves = λ B R marks m k e. refused_leaves (place_answer B marks R) B _ m k e;
}

-- ---- collecting

drop_replicate : (a b : ℕ) → drop {A = ℕ} a (replicate (a + b) 0) ≡ replicate b 0
drop_replicate zero b = ap (λ (k : ℕ). replicate k 0) (zero-add b)
drop_replicate (suc a) b = ap (λ (k : ℕ). drop {A = ℕ} (suc a) (replicate k 0)) (suc-add a b) ∙ drop_replicate a b

take_replicate : (a b : ℕ) → take {A = ℕ} a (replicate (a + b) 0) ≡ replicate a 0
take_replicate zero b = refl
take_replicate (suc a) b = ap (λ (k : ℕ). take {A = ℕ} (suc a) (replicate k 0)) (suc-add a b) ∙ ap (λ (l : List ℕ). 0 ∷ l) (take_replicate a b)

module _ (S target : List ℕ) (keep : ℕ) where
  abbrev all : ℕ
  all = kept_count keep 16

  collect_accepted : (n : ℕ) → (collect_answer S keep target ≡ result n) ↔ ((IsBlock S × IsBlock target) × T (zeros target) × (n ≡ all))
  unfolding collect_checks
  collect_accepted n =
      Iff.trans (tells.taken (other_lengths keep S target) 17 0 _ all n (tells.taken (opposite (zeros target)) 19 0 [] all n (nothing_left all n))) flat3

  collect_17 : (k : ℕ) → (collect_answer S keep target ≡ refusal 17 k) ↔ ((¬ IsBlock S ⊎ ¬ IsBlock target) × (k ≡ 0))
  unfolding collect_checks numbers among
  collect_17 k = just (other_lengths keep S target) 17 0 _ all refl k

  collect_19 : (k : ℕ) → (collect_answer S keep target ≡ refusal 19 k) ↔ ((IsBlock S × IsBlock target) × (zeros target ≡ false) × (k ≡ 0))
  unfolding collect_checks numbers among
  collect_19 k =
      Iff.trans (later (other_lengths keep S target) 17 0 _ all 19 k (λ e. omega arith) (just (opposite (zeros target)) 19 0 [] all refl k)) flat3

  -- an accepted call
  module _ (n : ℕ) (e : collect_answer S keep target ≡ result n) where
    abbrev kept : List ℕ
    kept = kept_pages S keep 16

    source_sized : 4096 ≤ length S
    source_sized = omega (arith, ((collect_accepted n).0 e).0.0)

    count_is : n ≡ all
    count_is = ((collect_accepted n).0 e).2

    length_front : length kept ≡ 256 * n
    length_front = length_kept keep S 16 source_sized ∙ ap (λ (j : ℕ). 256 * j) (sym count_is)

    few : n ≤ 16
    few = omega (arith, count_is, count_few keep 16)

    collect_leaves_lem : collect_leaves S keep target ≡ kept ++ replicate (256 * (16 - n)) 0
    unfolding at_start blank_of
    collect_leaves_lem =
        let h = (collect_accepted n).0 e in
        let t : target ≡ replicate 4096 0 = blank_zeros target h.1 ∙ ap (λ (j : ℕ). replicate j 0) h.0.1 in
        let q : 256 * n + 256 * (16 - n) ≡ 4096 = omega (arith, few) in
        taken_leaves (collect_answer S keep target) target (at_start kept target) n e
        ∙ ap₂ (λ (j : ℕ) (b : List ℕ). kept ++ drop j b) length_front t
        ∙ ap (λ (j : ℕ). kept ++ drop (256 * n) (replicate j 0)) (sym q)
        ∙ ap (λ (b : List ℕ). kept ++ b) (drop_replicate (256 * n) (256 * (16 - n)))

    kept_page : (i : ℕ) → i < 16 → T (marked keep i) → (kept_count keep i < n) × (page_at (collect_leaves S keep target) (kept_count keep i) ≡ page_at S i)
    kept_page i l t = (
      omega (arith, count_is, count_less keep 16 i l t),
      ap (λ (b : List ℕ). page_at b (kept_count keep i)) collect_leaves_lem ∙ kept_there keep S 16 i (replicate (256 * (16 - n)) 0) source_sized l t,
    )

    rest_blank : (k : ℕ) → n ≤ k → k < 16 → page_at (collect_leaves S keep target) k ≡ blank_of 256
    unfolding blank_of
    rest_blank k m l =
        let d = 256 * (k - n) in
        let r = 256 * (15 - k) in
        let here : 256 * k ≡ 256 * n + d = omega arith in
        let whole : 256 * (16 - n) ≡ d + (256 + r) = omega arith in
        ap (λ (b : List ℕ). page_at b k) (collect_leaves_lem ∙ ap (λ (j : ℕ). kept ++ replicate j 0) whole)
        ∙ ap (λ (j : ℕ). take 256 (drop j (kept ++ replicate (d + (256 + r)) 0))) here
        ∙ ap (take 256) (
        sym (drop-drop d (256 * n) (kept ++ replicate (d + (256 + r)) 0))
        ∙ ap (drop d) (drop_at kept (replicate (d + (256 + r)) 0) (256 * n) length_front)
        ∙ drop_replicate d (256 + r)
        )
        ∙ take_replicate 256 r

    still_whole : IsBlock (collect_leaves S keep target)
    unfolding blank_of
    still_whole =
        ap length collect_leaves_lem ∙ length-append kept (replicate (256 * (16 - n)) 0)
        ∙ omega (arith, length_front, length_blank (256 * (16 - n)), few)

    written_again : (D : List ℕ) (k : ℕ) → n ≤ k → k < 16 → length D ≡ 176 → write_first_answer (page_at (collect_leaves S keep target) k) D ≡ result 0
    written_again D k m l h =
        ap (λ (p : List ℕ). write_first_answer p D) (rest_blank k m l)
        ∙ ap (λ (s : Shape). answer (write_first_checks s (blank_of 256) D) 0) (own_shape sound256 (blank_of 256) (length_blank 256))
        ∙ (write_first page256 (blank_of 256) D 0).1 (refl, h, refl)

pub collects_right : CollectsRight
unfolding collect_checks numbers
collects_right = record {
  accepted = collect_accepted;
  refused_17 = collect_17;
  refused_19 = collect_19;
  no_other = λ S target keep. no_other (collect_checks 16 S target) (kept_count keep 16);
  kept_page = λ S target keep n i e. kept_page S target keep n e i;
  each_kept = λ keep k. kept_at keep 16 k;
  rest_blank = λ S target keep n k e. rest_blank S target keep n e k;
  still_block = still_whole;
  written_again = λ S target D keep n k e. written_again S target keep n e D k;
  refused_leaves = λ S target keep m k e. refused_leaves (collect_answer S keep target) target _ m k e;
}
