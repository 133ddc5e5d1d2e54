-- What placing answers, and what it leaves.
-- Assumes nothing.
use mathlib.Core.Bool.{not}
use mathlib.Core.List.{List, []}
use mathlib.Core.Path.{◌≡◌, refl, sym, ap, ◌∙◌}
use Prim.Native.Nat.{ℕ, ◌<◌}
use native.Mathlib.Omega.{arith}
use lib.ListN.{length}
use Rattle.std.specs.Prelude.{Option, Some, None, Result, Err}
use Rattle.std.specs.Option.{ok_or}
use Rattle.std.specs.Array.{IsWholeChunk}
use Rattle.answer.specs.declared.Refusal.{Refusal}
use Rattle.answer.specs.Answer.{Answer, result, refusal}
use Rattle.answer.proofs.Tells.{Tells, unequal, first_refused, passed, nothing_left}
use Rattle.answer.proofs.Chains.{both_refused, both_done}
use Rattle.block.specs.Block.{is_block, page_at, put_page, Choice, Page, Nothing, offer_at, choice_of, is_chosen, index_of}
use Rattle.block.specs.Answer.{place_checks, place_answer, both_steps, place_leaves}
use Rattle.block.specs.Claims.{IsBlock}
use Rattle.block.proofs.Choosing.{Right, right}

-- a slice that was taken as the array of a block
pub as_block : (B P : List ℕ) → IsWholeChunk B P 4096 → IsBlock P
as_block B P w = ap length w.same ∙ w.long

pub other_length : (B : List ℕ) → Tells (not (is_block 16 B)) (¬ IsBlock B) (IsBlock B)
other_length B = unequal (length B) 4096

-- the refusal that `ok_or` makes of nothing
pub refused_by : {A : Type 0} (o : Option A) (e d : Refusal) → ◌≡◌ {A = Result A Refusal} (Err e) (ok_or o d) → e ≡ d
refused_by None e d q = cc
refused_by (Some x) e d q = cc

pub unchosen : (c : Choice) → Tells (not (is_chosen c)) (c ≡ Nothing) ((i : ℕ) × ((room : ℕ) × (c ≡ Page i room)))
unchosen None = record { if_holds = λ e. refl; if_not = λ e. let z : ◌≡◌ {A = ℕ} 0 1 = cc in absurd (omega arith); apart = λ e h. none h }
  where
    none : (i : ℕ) × ((room : ℕ) × (Nothing ≡ Page i room)) → ⊥
    none (i, (room, e)) = let z : ◌≡◌ {A = ℕ} 0 1 = cc in omega arith
unchosen (Some b) = record {
  if_holds = λ e. let z : ◌≡◌ {A = ℕ} 0 1 = cc in absurd (omega arith);
  if_not = λ e. (b.index, (b.room, refl));
  apart = λ e h. let z : ◌≡◌ {A = ℕ} 0 1 = cc in omega arith;
}

module _ (B : List ℕ) (marks : ℕ) (R : List ℕ) where
  abbrev choice : Choice
  choice = choice_of 16 B marks R

  pub index_few : index_of choice < 16
  index_few = go choice (right (length R) (offer_at B marks) 16)
    where
      go : (c : Choice) → Right (length R) (offer_at B marks) 16 c → index_of c < 16
      go None r = omega arith
      go (Some c) r = r.fits.there

  abbrev Left : Answer → List ℕ → Type 0
  Left a b = (a ≡ place_answer B marks R) × (b ≡ place_leaves B marks R)

  pub not_a_block : ¬ IsBlock B → Left (refusal 17 0) B
  unfolding place_checks
  not_a_block h = both_refused _ B _ 17 0 (first_refused (other_length B) 17 0 _ (index_of choice) h)

  pub none_placed : IsBlock B → (c : Choice) → c ≡ choice → c ≡ Nothing → Left (refusal 18 0) B
  unfolding place_checks
  none_placed h c e q =
      both_refused _ B _ 18 0
      (passed (other_length B) 17 0 _ (index_of choice) h ∙ first_refused (unchosen choice) 18 0 [] (index_of choice) (sym e ∙ q))

  pub one_placed : IsBlock B → (c : Choice) → c ≡ choice → (i room : ℕ) → c ≡ Page i room → (b : List ℕ) → b ≡ put_page B i (both_steps (page_at B i) R)
      → Left (result i) b
  unfolding place_checks
  one_placed h c e i room q b eb =
      let p : choice ≡ Page i room = sym e ∙ q in
      both_done _ B _ i b
      (passed (other_length B) 17 0 _ (index_of choice) h ∙ passed (unchosen choice) 18 0 [] (index_of choice) (i, (room, p)) ∙ (nothing_left (index_of choice) i).1 (sym (ap index_of p)))
      (eb ∙ ap (λ (d : Choice). put_page B (index_of d) (both_steps (page_at B (index_of d)) R)) (sym p))
