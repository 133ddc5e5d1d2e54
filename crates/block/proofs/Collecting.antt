-- The pages that are kept, and what collecting answers and leaves.
-- Assumes nothing.
use mathlib.Core.Bool.{Bool, true, false, cond, not, ◌||◌}
use mathlib.Core.List.{List, [], ◌++◌, append-nil, append_assoc}
use mathlib.Core.Logic.{◌⊎◌, ⊎_elim}
use mathlib.Core.Path.{◌≡◌, refl, sym, ap, ◌∙◌, subst}
use Prim.Native.Nat.{ℕ, zero, suc, ◌+◌, ◌-◌, ◌*◌, ◌/◌, ◌^◌, ◌≤◌, ◌<◌}
use native.Mathlib.Nat.{add-zero, add-suc, div-eq_of_lt}
use native.Mathlib.Numerals.{add-one}
use native.Mathlib.Omega.{arith}
use lib.Dec.{T}
use lib.ListN.{length, take, length-append}
use lib.Seq.{sets, take_at, drop_at}
use Rattle.std.specs.Int.Count.{count_leading_zeros}
use Rattle.std.proofs.lemmas.Nat.{leading_length}
use Rattle.cells.specs.Cells.{bit}
use Rattle.cells.specs.Bytes.{zeros}
use Rattle.cells.proofs.Bits.{bit_shr, bit_zero}
use Rattle.cells.proofs.Tests.{lt_cases, holds}
use Rattle.cells.proofs.Storing.{sets_then, sets_at_start}
use Rattle.answer.specs.Answer.{Answer, result, refusal}
use Rattle.answer.proofs.Tells.{Tells, opposite, first_refused, passed, nothing_left}
use Rattle.answer.proofs.Tells as tells
use Rattle.answer.proofs.Chains.{both_refused, both_done}
use Rattle.block.specs.Block.{is_block, page_at, marked, kept_pages, kept_count}
use Rattle.block.specs.Answer.{collect_checks, collect_answer, collect_leaves}
use Rattle.block.specs.Claims.{IsBlock}
use Rattle.block.proofs.Pages.{length_page_at}
use Rattle.block.proofs.Placing.{other_length}

-- ---- how many are kept

module _ (keep : ℕ) where
  at_most_one : (b : Bool) → cond b 1 0 ≤ 1
  at_most_one true = omega arith
  at_most_one false = omega arith

  pub count_few : (n : ℕ) → kept_count keep n ≤ n
  unfolding kept_count
  count_few zero = omega arith
  count_few (suc n) = omega (arith, count_few n, at_most_one (marked keep n))

  is_one : (i : ℕ) → T (marked keep i) → ◌≡◌ {A = ℕ} (cond (marked keep i) 1 0) 1
  is_one i t = go (marked keep i) t
    where
      go : (b : Bool) → T b → ◌≡◌ {A = ℕ} (cond b 1 0) 1
      go true t = refl
      go false t = absurd t

  -- a kept page has fewer kept pages before it than there are
  pub count_less : (n i : ℕ) → i < n → T (marked keep i) → kept_count keep i < kept_count keep n
  unfolding kept_count
  count_less zero i h t = absurd (omega arith)
  count_less (suc n) i h t =
      ⊎_elim (λ e. let k = ap (kept_count keep) e in omega (arith, k, subst (λ (j : ℕ). ◌≡◌ {A = ℕ} (cond (marked keep j) 1 0) 1) e (is_one i t)))
      (λ l. omega (arith, count_less n i l t)) (lt_cases h)

  -- the page before which k are kept
  abbrev KeptAt : ℕ → ℕ → Type 0
  KeptAt n k = (i : ℕ) × (i < n) × T (marked keep i) × (kept_count keep i ≡ k)

  pub kept_at : (n k : ℕ) → k < kept_count keep n → KeptAt n k
  unfolding kept_count
  kept_at zero k h = absurd (omega arith)
  kept_at (suc n) k h = go (λ l. kept_at n k l) (marked keep n) refl h
    where
      later : KeptAt n k → KeptAt (suc n) k
      later h = (h.0, omega (arith, h.1), h.2, h.3)

      go : (k < kept_count keep n → KeptAt n k) → (b : Bool) → marked keep n ≡ b → k < kept_count keep n + cond b 1 0 → KeptAt (suc n) k
      go r false e l = later (r (omega arith))
      go r true e l = ⊎_elim (λ q. (n, omega arith, holds (marked keep n) e, sym q)) (λ q. later (r q)) (lt_cases (rw (add-one (kept_count keep n)) at l))

  -- of 16 bits, none is left behind the last
  pub none_left : keep < 2 ^ 16 → keep / 2 ^ (16 - count_leading_zeros 16 keep) ≡ 0
  none_left h =
      let t = leading_length 16 keep h in
      let e : 16 - count_leading_zeros 16 keep ≡ t.0 = omega (arith, t.1) in rw e (div-eq_of_lt t.2)

module _ (keep : ℕ) (source : List ℕ) where
  abbrev piece : ℕ → List ℕ
  piece i = cond (marked keep i) (page_at source i) []

  length_piece : (i : ℕ) → 256 * i + 256 ≤ length source → length (piece i) ≡ 256 * cond (marked keep i) 1 0
  length_piece i h = go (marked keep i)
    where
      go : (b : Bool) → length (cond b (page_at source i) []) ≡ 256 * cond b 1 0
      go true = length_page_at source i h
      go false = refl

  pub length_kept : (n : ℕ) → 256 * n ≤ length source → length (kept_pages source keep n) ≡ 256 * kept_count keep n
  unfolding kept_count kept_pages
  length_kept zero h = refl
  length_kept (suc n) h =
      length-append (kept_pages source keep n) (piece n) ∙ omega (arith, length_kept n (omega arith), length_piece n (omega arith))

  -- a kept page stands behind those that are kept before it, whatever follows
  pub kept_there : (n i : ℕ) (more : List ℕ) → 256 * n ≤ length source → i < n → T (marked keep i)
      → page_at (kept_pages source keep n ++ more) (kept_count keep i) ≡ page_at source i
  unfolding kept_pages
  kept_there zero i more h l t = absurd (omega arith)
  kept_there (suc n) i more h l t =
      ap (λ (x : List ℕ). page_at x (kept_count keep i)) (append_assoc (kept_pages source keep n) (piece n) more)
      ∙ ⊎_elim (λ e. last e) (λ q. kept_there n i (piece n ++ more) (omega arith) q t) (lt_cases l)
    where
      whole : (b : Bool) → T b → cond b (page_at source n) [] ≡ page_at source n
      whole true t = refl
      whole false t = absurd t

      last : i ≡ n → page_at (kept_pages source keep n ++ (piece n ++ more)) (kept_count keep i) ≡ page_at source i
      last e =
          let k = kept_pages source keep n in
          let p : piece n ≡ page_at source n = whole (marked keep n) (subst (λ (j : ℕ). T (marked keep j)) e t) in
          ap (λ (j : ℕ). page_at (k ++ (piece n ++ more)) (kept_count keep j)) e
          ∙ ap (take 256) (drop_at k (piece n ++ more) (256 * kept_count keep n) (length_kept n (omega arith)) ∙ ap (λ (x : List ℕ). x ++ more) p)
          ∙ take_at (page_at source n) more 256 (length_page_at source n (omega arith))
          ∙ ap (page_at source) (sym e)

  -- ---- one page more

  -- after i pages
  pub record Keeps (target₀ target : List ℕ) (n i : ℕ) : Type 0 where
    pub count : n ≡ kept_count keep i
    pub put : target ≡ sets target₀ 0 (kept_pages source keep i)
    pub few : n ≤ i

  pub keeps_first : (target : List ℕ) → Keeps target target 0 0
  unfolding kept_count kept_pages
  keeps_first target = record { count = refl; put = refl; few = omega arith }

  pub keeps_page : (target₀ target next : List ℕ) (n i : ℕ) → IsBlock source → i < 16 → true ≡ marked keep i → Keeps target₀ target n i
      → next ≡ sets target (256 * n) (page_at source i) → Keeps target₀ next (n + 1) (i + 1)
  unfolding kept_count kept_pages
  keeps_page target₀ target next n i hs hi e k en =
      let page = page_at source i in
      let before : 256 * n ≡ 0 + length (kept_pages source keep i) = omega (arith, length_kept i (omega arith), k.count) in
      rw (add-one i) (record {
        count = rw (sym e) (ap (λ (j : ℕ). j + 1) k.count);
        put =
            rw (sym e)
            (en ∙ ap (λ (t : List ℕ). sets t (256 * n) page) k.put ∙ sets_then target₀ 0 (kept_pages source keep i) page (256 * n) before);
        few = omega (arith, k.few);
      })

  pub keeps_none : (target₀ target : List ℕ) (n i : ℕ) → false ≡ marked keep i → Keeps target₀ target n i → Keeps target₀ target n (i + 1)
  unfolding kept_count kept_pages
  keeps_none target₀ target n i e k = rw (add-one i) (record {
    count = rw (sym e) (k.count ∙ sym (add-zero (kept_count keep i)));
    put = rw (sym e) (k.put ∙ ap (sets target₀ 0) (sym (append-nil (kept_pages source keep i))));
    few = omega (arith, k.few);
  })

  -- where no mark is left after the first i pages, all are done
  pub keeps_all : (target₀ target : List ℕ) (n i : ℕ) → i ≤ 16 → keep / 2 ^ i ≡ 0 → Keeps target₀ target n i → Keeps target₀ target n 16
  unfolding kept_count kept_pages
  keeps_all target₀ target n i h e k = subst (Keeps target₀ target n) (omega arith) (go (16 - i))
    where
      none : (d : ℕ) → false ≡ marked keep (i + d)
      none d = sym (sym (bit_shr keep i d) ∙ ap (λ (x : ℕ). bit x d) e ∙ bit_zero d)

      go : (d : ℕ) → Keeps target₀ target n (i + d)
      go zero = subst (Keeps target₀ target n) (sym (add-zero i)) k
      go (suc d) = subst (Keeps target₀ target n) (add-one (i + d) ∙ sym (add-suc i d)) (keeps_none target₀ target n (i + d) (none d) (go d))

  -- ---- the whole block

  module _ (target : List ℕ) where
    abbrev Left : Answer → List ℕ → Type 0
    Left a t = (a ≡ collect_answer source keep target) × (t ≡ collect_leaves source keep target)

    abbrev pub other_lengths : Tells (not (is_block 16 source) || not (is_block 16 target)) (¬ IsBlock source ⊎ ¬ IsBlock target) (IsBlock source × IsBlock target)
    other_lengths = tells.either (other_length source) (other_length target)

    pub not_blocks : ¬ IsBlock source ⊎ ¬ IsBlock target → Left (refusal 17 0) target
    unfolding collect_checks
    not_blocks h = both_refused _ target _ 17 0 (first_refused other_lengths 17 0 _ (kept_count keep 16) h)

    module _ (hs : IsBlock source) (ht : IsBlock target) where
      pub not_blank : false ≡ zeros target → Left (refusal 19 0) target
      unfolding collect_checks
      not_blank e =
          both_refused _ target _ 19 0
          (passed other_lengths 17 0 _ (kept_count keep 16) (hs, ht) ∙ first_refused (opposite (zeros target)) 19 0 [] (kept_count keep 16) (sym e))

      pub collected : true ≡ zeros target → (n : ℕ) (t : List ℕ) → n ≡ kept_count keep 16 → t ≡ sets target 0 (kept_pages source keep 16) → Left (result n) t
      unfolding collect_checks
      collected e n t en et =
          both_done _ target _ n t
          (passed other_lengths 17 0 _ (kept_count keep 16) (hs, ht) ∙ passed (opposite (zeros target)) 19 0 [] (kept_count keep 16) (subst T e tt) ∙ (nothing_left (kept_count keep 16) n).1 en)
          (et ∙ sets_at_start target (kept_pages source keep 16) (omega (arith, length_kept 16 (omega arith), count_few keep 16)))
