-- What is claimed of a block of pages: of the choice, of placing a record and of collecting. proofs/Claims.antt proves it. demands/specs/Blocks.antt
-- has what follows with the three demands: the record that is placed is read back, and no cell is cleared.
-- Assumes nothing.
use Rattle.std.specs.Prelude.{false, List, [], ◌∷◌, ◌↔◌, ◌⊎◌, ◌≡◌, ℕ, ◌*◌, ◌≤◌, ◌<◌, T, length}
use Rattle.cells.specs.Bytes.{Bytes, zeros}
use Rattle.answer.specs.Answer.{result, refusal, RefusesBy}
use Rattle.rows.specs.Page.{page256, blank_of, FirstRoundOf}
use Rattle.page.specs.Answer.{write_first_answer, read_first_answer}
use Rattle.filled.specs.Answer.{room_first, page_capacity_answer}
use Rattle.block.specs.Block.{page_at, marked, Offer, Room, Page, Nothing, offer_at, chosen, kept_count}
use Rattle.block.specs.Answer.{place_answer, both_steps, place_leaves, collect_answer, collect_leaves}

-- the bytes of 16 pages
abbrev pub IsBlock : List ℕ → Type 0
IsBlock block = length block ≡ 4096

-- ---- choosing

-- page i is one of the first n, offers so much room, and a record of `size` bytes fits it: "A page fits when its capacity is at least 8 times the
-- record's length."
pub record Fitting (size : ℕ) (offers : ℕ → Offer) (n i room : ℕ) : Type 0 where
  pub there : i < n
  pub offers_it : offers i ≡ Room room
  pub enough : 8 * size ≤ room

-- page i has less room than page j, or as much and no higher index
abbrev pub Before : ℕ → ℕ → ℕ → ℕ → Type 0
Before i room j other = (room < other) ⊎ ((room ≡ other) × (i ≤ j))

-- of the pages that fit, page i is the one "with the smallest capacity", "the lowest index among equals"
pub record Best (size : ℕ) (offers : ℕ → Offer) (n i room : ℕ) : Type 0 where
  pub fits : Fitting size offers n i room
  pub least : (j other : ℕ) → Fitting size offers n j other → Before i room j other

-- no page fits
abbrev pub NoneFits : ℕ → (ℕ → Offer) → ℕ → Type 0
NoneFits size offers n = (j other : ℕ) → Fitting size offers n j other → ⊥

-- Over any pages and any number of them:
pub record ChoosesBest : Type 0 where
  -- a page is chosen exactly where it is the best of those that fit
  pub best : (size : ℕ) (offers : ℕ → Offer) (n i room : ℕ) → (chosen size offers n ≡ Page i room) ↔ Best size offers n i room
  -- none is chosen exactly where none fits
  pub none : (size : ℕ) (offers : ℕ → Offer) (n : ℕ) → (chosen size offers n ≡ Nothing) ↔ NoneFits size offers n

-- What a page offers, of every block:
pub record OffersRight : Type 0 where
  -- its capacity, exactly where it is marked and a first-round page
  pub first_round : (block : List ℕ) (marks i room : ℕ) → Bytes block
      → (offer_at block marks i ≡ Room room) ↔ (T (marked marks i) × FirstRoundOf page256 (page_at block i) × (room ≡ room_first page256 (page_at block i)))
  -- by the operations: where it is marked, read first accepts it, "given output enough", and page capacity answers so much
  pub by_operations : (block out : List ℕ) (marks i room : ℕ) → Bytes block → IsBlock block → i < 16 → 176 ≤ length out
      → (offer_at block marks i ≡ Room room)
      ↔ (T (marked marks i) × (read_first_answer (page_at block i) out ≡ result 0) × (page_capacity_answer (page_at block i) ≡ result room))

-- ---- placing, of every block B, all marks and every record R

-- the offers of the block's 16 pages
abbrev pub BestPage : List ℕ → ℕ → List ℕ → ℕ → ℕ → Type 0
BestPage B marks R i room = Best (length R) (offer_at B marks) 16 i room

pub record PlacesRight : Type 0 where
  -- accepted with the index of the best page
  pub accepted : (B R : List ℕ) (marks i : ℕ) → (place_answer B marks R ≡ result i) ↔ (IsBlock B × ((room : ℕ) × BestPage B marks R i room))
  -- "17 for any block" "that is not 4,096 bytes"
  pub refused_17 : (B R : List ℕ) (marks k : ℕ) → (place_answer B marks R ≡ refusal 17 k) ↔ (¬ IsBlock B × (k ≡ 0))
  -- "18 exactly when no marked page that is not passed over fits"
  pub refused_18 : (B R : List ℕ) (marks k : ℕ)
      → (place_answer B marks R ≡ refusal 18 k) ↔ (IsBlock B × NoneFits (length R) (offer_at B marks) 16 × (k ≡ 0))
  -- and no other number
  pub no_other : (B R : List ℕ) (marks : ℕ) → RefusesBy (17 ∷ 18 ∷ []) (place_answer B marks R)
  -- the page that is answered is filled and written
  pub written : (B R : List ℕ) (marks i : ℕ) → place_answer B marks R ≡ result i → page_at (place_leaves B marks R) i ≡ both_steps (page_at B i) R
  -- "and other pages keep every byte"; there are 16 still
  pub others : (B R : List ℕ) (marks i j : ℕ) → place_answer B marks R ≡ result i → ¬ (j ≡ i) → page_at (place_leaves B marks R) j ≡ page_at B j
  pub still_block : (B R : List ℕ) (marks i : ℕ) → place_answer B marks R ≡ result i → IsBlock (place_leaves B marks R)
  -- a refused call leaves the block as it was
  pub refused_leaves : (B R : List ℕ) (marks m k : ℕ) → place_answer B marks R ≡ refusal m k → place_leaves B marks R ≡ B

-- ---- collecting, of every source S, all marks and every target

pub record CollectsRight : Type 0 where
  -- accepted with the number of the pages kept: both are blocks, and the target is blank
  pub accepted : (S target : List ℕ) (keep n : ℕ)
      → (collect_answer S keep target ≡ result n) ↔ ((IsBlock S × IsBlock target) × T (zeros target) × (n ≡ kept_count keep 16))
  -- "17 for any block, source or target, that is not 4,096 bytes"
  pub refused_17 : (S target : List ℕ) (keep k : ℕ) → (collect_answer S keep target ≡ refusal 17 k) ↔ ((¬ IsBlock S ⊎ ¬ IsBlock target) × (k ≡ 0))
  -- "19 when a byte of the target is not 0"
  pub refused_19 : (S target : List ℕ) (keep k : ℕ)
      → (collect_answer S keep target ≡ refusal 19 k) ↔ ((IsBlock S × IsBlock target) × (zeros target ≡ false) × (k ≡ 0))
  -- and no other number
  pub no_other : (S target : List ℕ) (keep : ℕ) → RefusesBy (17 ∷ 19 ∷ []) (collect_answer S keep target)
  -- "in their order, to the front": a kept page, before which k are kept, is page k of the target
  pub kept_page : (S target : List ℕ) (keep n i : ℕ) → collect_answer S keep target ≡ result n → i < 16 → T (marked keep i)
      → (kept_count keep i < n) × (page_at (collect_leaves S keep target) (kept_count keep i) ≡ page_at S i)
  -- each page in front is one: page k has a kept page before which k are kept
  pub each_kept : (keep k : ℕ) → k < kept_count keep 16 → (i : ℕ) × (i < 16) × T (marked keep i) × (kept_count keep i ≡ k)
  -- "the remainder stays 0": each page after them is blank; there are 16 still
  pub rest_blank : (S target : List ℕ) (keep n k : ℕ) → collect_answer S keep target ≡ result n → n ≤ k → k < 16
      → page_at (collect_leaves S keep target) k ≡ blank_of 256
  pub still_block : (S target : List ℕ) (keep n : ℕ) → collect_answer S keep target ≡ result n → IsBlock (collect_leaves S keep target)
  -- "and can be written again": write first accepts it, with any first record
  pub written_again : (S target D : List ℕ) (keep n k : ℕ) → collect_answer S keep target ≡ result n → n ≤ k → k < 16 → length D ≡ 176
      → write_first_answer (page_at (collect_leaves S keep target) k) D ≡ result 0
  -- a refused call leaves the target as it was
  pub refused_leaves : (S target : List ℕ) (keep m k : ℕ) → collect_answer S keep target ≡ refusal m k → collect_leaves S keep target ≡ target
