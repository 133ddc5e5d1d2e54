-- What follows of a record that is placed in a block (specs/Blocks.antt), and that no cell of the block is cleared (specs/Outcome.antt).
-- Assumes nothing.
use mathlib.Core.List.{List, [], ◌∷◌, ◌++◌}
use mathlib.Core.Logic.Iff
use mathlib.Core.Logic.{◌↔◌, ◌⊎◌}
use mathlib.Core.Path.{◌≡◌, refl, sym, ap, ◌∙◌, subst}
use Prim.Native.Nat.{ℕ, zero, suc, ◌+◌, ◌*◌, ◌≤◌, ◌<◌}
use native.Mathlib.Omega.{arith}
use lib.ListN.{length, take, drop, take-append-drop}
use lib.Seq.{drop-drop}
use Rattle.std.specs.Prelude.{Some, None}
use Rattle.cells.specs.Bytes.{Bytes}
use Rattle.answer.specs.Answer.{Answer, result, refusal}
use Rattle.rows.specs.Page.{page256, FirstRoundOf}
use Rattle.rows.specs.Code.{fill_code, room_ahead, outcome_of}
use Rattle.rows.proofs.Shapes.{sound256}
use Rattle.filled.specs.Answer.{room_first, pulses_of, fill_page_answer, fill_page_leaves}
use Rattle.second.specs.Answer.{write_second_answer, read_second_answer, read_second_leaves}
use Rattle.block.specs.Block.{page_at, put_page, Choice, offer_at, choice_of}
use Rattle.block.specs.Answer.{place_answer, place_leaves, both_steps}
use Rattle.block.specs.Claims.{IsBlock, Fitting, Best}
use Rattle.block.proofs.Claims.{offers_right, chooses_best, places_right, put_leaves}
use Rattle.demands.specs.Outcome.{Keeps}
use Rattle.demands.specs.Blocks.{MayTake, capacity_at, PlacedRecords}
use Rattle.demands.proofs.Codes.{fill_taken, fill_writing}
use Rattle.demands.proofs.Demands.{demand3}

-- ---- fitting a page, by its capacity and in the terms of the demands

module _ (B R : List ℕ) (marks : ℕ) (b : Bytes B) (r : Bytes R) where
  -- the capacity that is offered, the room with which a record is compared, and the data cells are one number
  room_cells : (j : ℕ) → FirstRoundOf page256 (page_at B j) → room_first page256 (page_at B j) ≡ capacity_at B j
  room_cells j p = demand3.figures.capacity_is (page_at B j) p

  cells_room : (j : ℕ) → FirstRoundOf page256 (page_at B j) → room_ahead fill_code page256 (page_at B j) R ≡ capacity_at B j
  cells_room j p = demand3.figures.room_is (page_at B j) R p

  abbrev Fits : ℕ → ℕ → Type 0
  Fits j room = Fitting (length R) (offer_at B marks) 16 j room

  may_take : (j room : ℕ) → Fits j room → MayTake B marks R j × (room ≡ capacity_at B j)
  may_take j room f =
      let o = (offers_right.first_round B marks j room b).0 f.offers_it in
      let e : room ≡ capacity_at B j = o.2 ∙ room_cells j o.1 in (
        record {
          there = f.there;
          may_go = o.0;
          first_round = o.1;
          fits = record { of_bytes = r; enough = omega (arith, f.enough, e, cells_room j o.1) };
        },
        e,
      )

  taken_fits : (j : ℕ) → MayTake B marks R j → Fits j (capacity_at B j)
  taken_fits j m = record {
    there = m.there;
    offers_it = (offers_right.first_round B marks j (capacity_at B j) b).1 (m.may_go, m.first_round, sym (room_cells j m.first_round));
    enough = omega (arith, m.fits.enough, cells_room j m.first_round);
  }

  refused_18 : (k : ℕ) → (place_answer B marks R ≡ refusal 18 k) ↔ (IsBlock B × ((j : ℕ) → ¬ MayTake B marks R j) × (k ≡ 0))
  refused_18 k = Iff.trans (places_right.refused_18 B R marks k) (
    λ h. (h.0, λ j m. h.1 j (capacity_at B j) (taken_fits j m), h.2),
    λ h. (h.0, λ j other f. h.1 j (may_take j other f).0, h.2),
  )

  sure : (j : ℕ) → IsBlock B → MayTake B marks R j → (i : ℕ) × (place_answer B marks R ≡ result i)
  sure j h m = go _ refl
    where
      go : (c : Choice) → choice_of 16 B marks R ≡ c → (i : ℕ) × (place_answer B marks R ≡ result i)
      go None e = absurd ((chooses_best.none _ _ _).0 e j (capacity_at B j) (taken_fits j m))
      go (Some c) e = (c.index, (places_right.accepted B R marks c.index).1 (h, (c.room, (chooses_best.best _ _ _ c.index c.room).0 e)))

  -- ---- an accepted call

  module _ (i : ℕ) (e : place_answer B marks R ≡ result i) where
    abbrev P : List ℕ
    P = page_at B i

    abbrev best : (room : ℕ) × Best (length R) (offer_at B marks) 16 i room
    best = ((places_right.accepted B R marks i).0 e).1

    chosen : MayTake B marks R i
    chosen = (may_take i best.0 best.1.fits).0

    least : (j : ℕ) → MayTake B marks R j → (capacity_at B i < capacity_at B j) ⊎ ((capacity_at B i ≡ capacity_at B j) × (i ≤ j))
    least j m =
        subst (λ (room : ℕ). (room < capacity_at B j) ⊎ ((room ≡ capacity_at B j) × (i ≤ j))) (may_take i best.0 best.1.fits).1
        (best.1.least j (capacity_at B j) (taken_fits j m))

    both_accepted : (fill_page_answer P ≡ result (pulses_of page256 P)) × (write_second_answer (fill_page_leaves P) R ≡ result 0)
    both_accepted = (fill_taken sound256 P chosen.first_round, ((fill_writing sound256).accepted P R chosen.first_round chosen.fits).0)

    outcome : page_at (place_leaves B marks R) i ≡ outcome_of fill_code page256 P R
    outcome = places_right.written B R marks i e ∙ ((fill_writing sound256).accepted P R chosen.first_round chosen.fits).1

    read_back : (out : List ℕ) → length R ≤ length out
        → (read_second_answer (page_at (place_leaves B marks R) i) out ≡ result (length R))
        × (read_second_leaves (page_at (place_leaves B marks R) i) out ≡ R ++ drop (length R) out)
    read_back out h =
        let w = (fill_writing sound256).read_back P R out chosen.first_round chosen.fits h in
        (ap (λ (page : List ℕ). read_second_answer page out) outcome ∙ w.0, ap (λ (page : List ℕ). read_second_leaves page out) outcome ∙ w.1)

pub placed_records : PlacedRecords
placed_records = record {
  chosen = λ B R marks i b r e. chosen B R marks b r i e;
  least = λ B R marks i j b r e. least B R marks b r i e j;
  refused_18 = λ B R marks k b r. refused_18 B R marks b r k;
  sure = λ B R marks j b r h l t m p. sure B R marks b r j h (record {
    there = t;
    may_go = m;
    first_round = p;
    fits = demand3.figures.sure_fits (page_at B j) R p r l;
  });
  too_long = λ B R marks b r h l. (refused_18 B R marks b r 0).1 (
    h,
    λ j m. let z = demand3.figures.longest_fits (page_at B j) R m.first_round m.fits in omega arith,
    refl,
  );
  both_accepted = λ B R marks i b r e. both_accepted B R marks b r i e;
  outcome = λ B R marks i b r e. outcome B R marks b r i e;
  read_back = λ B R out marks i b r e. read_back B R marks b r i e out;
}

-- ---- no cell is cleared

-- the first byte of two lists, before others
keeps_cons : (x y : ℕ) (a c b d : List ℕ) → Keeps (x ∷ a) (y ∷ c) → Keeps b d → Keeps (x ∷ b) (y ∷ d)
keeps_cons x y a c b d h k zero n t = h 0 n t
keeps_cons x y a c b d h k (suc i) n t = k i n t

keeps_append : (a c b d : List ℕ) → length a ≡ length c → Keeps a c → Keeps b d → Keeps (a ++ b) (c ++ d)
keeps_append [] [] b d l h k = k
keeps_append [] (y ∷ c) b d l h k = absurd (omega arith)
keeps_append (x ∷ a) [] b d l h k = absurd (omega arith)
keeps_append (x ∷ a) (y ∷ c) b d l h k =
    keeps_cons x y a c (a ++ b) (c ++ d) h (keeps_append a c b d (omega arith) (λ j m s. h (suc j) m s) k)

accepted_keeps : (B R : List ℕ) (marks i : ℕ) → Bytes B → Bytes R → place_answer B marks R ≡ result i → Keeps B (place_leaves B marks R)
unfolding put_page
accepted_keeps B R marks i b r e =
    let c = chosen B R marks b r i e in
    let P = page_at B i in
    let new = both_steps P R in
    let front = take (256 * i) B in
    let rest = drop (256 * i + 256) B in
    let w = fill_writing sound256 in
    let o = (w.accepted P R c.first_round c.fits).1 in
    let whole : front ++ (P ++ rest) ≡ B =
    ap (λ (l : List ℕ). front ++ l) (ap (λ (l : List ℕ). P ++ l) (sym (drop-drop 256 (256 * i) B)) ∙ take-append-drop 256 (drop (256 * i) B)) ∙ take-append-drop (256 * i) B in
    subst (λ (old : List ℕ). Keeps old (place_leaves B marks R)) whole
    (subst (Keeps (front ++ (P ++ rest))) (sym (put_leaves B R marks i e))
    (keeps_append front front (P ++ rest) (new ++ rest) refl (λ j n t. t)
    (keeps_append P new rest rest (c.first_round.sized ∙ sym (ap length o ∙ (w.still_sized P R c.first_round c.fits).0))
    (subst (Keeps P) (sym o) (w.no_cell_cleared P R c.first_round c.fits)) (λ j n t. t))))

pub place_keeps : (B R : List ℕ) (marks : ℕ) → Bytes B → Bytes R → Keeps B (place_leaves B marks R)
place_keeps B R marks b r = go (place_answer B marks R) refl
  where
    go : (a : Answer) → place_answer B marks R ≡ a → Keeps B (place_leaves B marks R)
    go (result i) e = accepted_keeps B R marks i b r e
    go (refusal m k) e = subst (Keeps B) (sym (places_right.refused_leaves B R marks m k e)) (λ j n t. t)
