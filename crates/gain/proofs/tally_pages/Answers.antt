-- `gain::tally_pages` meets its contract. The loop's invariant: the buffer has 256 bytes, and in the turn of page `index` the tally is that of
-- so many whole pages. The measure is how many pages may still come.
-- Assumes nothing.
use mathlib.Core.Bool.{true}
use mathlib.Core.List.{List, [], ◌++◌}
use mathlib.Core.Logic.{⊎_elim}
use mathlib.Core.Path.{◌≡◌, refl, sym, ap, subst, ◌∙◌}
use Prim.Native.Nat.{ℕ, ◌≤◌}
use native.Mathlib.Decide.{ℕ_discrete}
use native.Mathlib.Nat.{min-le_right}
use native.Mathlib.Omega.{arith}
use lib.ListN.{length, take, length-append, length-take}
use lib.Seq.{length-take-le}
use Rattle.report.specs.Kinds.{kind_of}
use Rattle.std.specs.Prelude.{Option, Some}
use Rattle.report.specs.Listing.{pieces_of, first_turn, next_turn}
use Rattle.report.proofs.Listings.{pieces_none}
use Rattle.report.proofs.Turning.{next_short, next_cases, one_less}
use Rattle.sheet.specs.declared.Tally.{Tally}
use Rattle.sheet.specs.Sheet.{no_pages, tallied, tally_from, tally_of, turn_tally}
use Rattle.sheet.proofs.Tallying.{tally_more, tally_whole, turn_none, turn_some}
use Rattle.gain.proofs.tally_pages.Invariants.{Sheeted, Counted}
use Rattle.gain.proofs.tally_pages.Goals.{In-Some}
use Rattle.gain.proofs.tally_pages.Goals as goal

-- and in the turn after it
module _ (index n : ℕ) {t : Tally} (page : List ℕ) (sized : length page ≡ 256) (h : Counted (Some index) t) where
  -- a piece came
  one_more : (l : List ℕ) → ¬ (length l ≡ 0) → length l ≤ 256 → turn_tally t l ≡ tally_of (pieces_of (h.0 ++ l))
  one_more l some most =
      turn_some t l some ∙ ap (λ (s : Tally). tallied s (kind_of l)) h.2
      ∙ sym (tally_more index h.0 l h.1 (omega (arith, h.3)) (omega (arith, some)) most)

  -- the last one, or none
  last : (l : List ℕ) → length l ≤ 256 → Dec (length l ≡ 0) → Sheeted (turn_tally t l)
  last l most (yes none) = (h.0, turn_none t l none ∙ h.2)
  last l most (no some) = (h.0 ++ l, one_more l some most)

  next_counted : Dec (n ≡ 256) → Counted (next_turn index n true) (turn_tally t (take n page))
  next_counted (yes e) =
      let piece = take n page in
      let whole : length piece ≡ 256 = length-take-le n page (omega (arith, e, sized)) ∙ e in
      let more = one_more piece (λ z. absurd (omega (arith, z, whole))) (omega (arith, whole)) in
      ⊎_elim (λ q. subst (λ (u : Option ℕ). Counted u (turn_tally t piece)) (sym q) (h.0 ++ piece, more))
      (λ q.
      subst (λ (u : Option ℕ). Counted u (turn_tally t piece)) (sym q.0)
      (h.0 ++ piece, omega (arith, length-append h.0 piece, h.1, whole), more, omega (arith, q.1))) (next_cases index n true)
  next_counted (no e) =
      let piece = take n page in
      subst (λ (u : Option ℕ). Counted u (turn_tally t piece)) (sym (next_short index n true e))
      (last piece (omega (arith, length-take n page, min-le_right n (length page), sized)) (ℕ_discrete (length piece) 0))

-- none so far
none_counted : {u : Option ℕ} {t : Tally} → u ≡ first_turn → t ≡ no_pages → Counted u t
unfolding pieces_of tally_from
none_counted {u} {t} e f =
    subst (λ (v : Option ℕ). Counted v t) (sym e) ([], refl, f ∙ sym (ap tally_of (pieces_none 4096)), omega arith)

-- the tally in the turn of a page
in_turn : (c : In-Some) → Counted (Some c.in-Some.index) c.loop-turn.tally
in_turn c = subst (λ (u : Option ℕ). Counted u c.loop-turn.tally) c.in-Some.is c.loop-turn.invariant.1

pub loop-turn-init : goal.loop-turn-init
loop-turn-init c = (ap length c.requires.zeros, none_counted c.requires.from c.no_pages-tally.ensures)

pub tally_piece-tally-requires : goal.tally_piece-tally-requires
tally_piece-tally-requires c = let h = in_turn (goal.at.tally_piece-tally-requires c).In-Some in tally_whole c.in-Some.index h.0 h.1 h.3 h.2

pub loop-turn-smaller : goal.loop-turn-smaller
loop-turn-smaller c = one_less _ _ true c.in-Some.is c.next_turn-turn.ensures

pub loop-turn-preserved : goal.loop-turn-preserved
loop-turn-preserved c =
    let n = c.read_full-n.result in
    let page = c.read_full-n.new.buffer in
    let sized : length page ≡ 256 = c.read_full-n.auto.buffer ∙ c.loop-turn.invariant.0 in
    let after = next_counted c.in-Some.index n page sized (in_turn (goal.at.loop-turn-preserved c).In-Some) (ℕ_discrete n 256) in (
      sized,
      rw (c.next_turn-turn.ensures, c.tally_piece-tally.ensures) after,
    )
