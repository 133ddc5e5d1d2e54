-- Laws of the lowest index of a word that does not pass a test: the words before it pass, the word there does not, and it is the number
-- of words exactly where every word passes.
-- Assumes nothing.
use mathlib.Core.Bool.{Bool, true, false, cond}
use mathlib.Core.List.{List, [], ◌∷◌, ◌++◌}
use mathlib.Core.Path.{◌≡◌, refl, ap, ◌∙◌}
use Prim.Native.Nat.{ℕ, zero, suc, ◌+◌, ◌≤◌, ◌<◌}
use native.Mathlib.Omega.{arith}
use lib.Dec.{T}
use lib.ListN.{length, get_or}
use Rattle.cells.proofs.Tests.{is_true, holds}
use Rattle.rows.specs.Page.{lowest}

module _ (test : List Bool → Bool) where
  -- ---- one word more

  pub lowest_passed : (w : List Bool) (ws : List (List Bool)) → test w ≡ true → lowest test (w ∷ ws) ≡ suc (lowest test ws)
  unfolding lowest
  lowest_passed w ws e = ap (λ (b : Bool). cond b (suc (lowest test ws)) 0) e

  pub lowest_failed : (w : List Bool) (ws : List (List Bool)) → test w ≡ false → lowest test (w ∷ ws) ≡ 0
  unfolding lowest
  lowest_failed w ws e = ap (λ (b : Bool). cond b (suc (lowest test ws)) 0) e

  -- ---- the words before it and the word there

  pub lowest_le : (ws : List (List Bool)) → lowest test ws ≤ length ws
  unfolding lowest
  lowest_le [] = omega arith
  lowest_le (w ∷ ws) = go (test w) (lowest_le ws)
    where
      go : (b : Bool) → lowest test ws ≤ length ws → cond b (suc (lowest test ws)) 0 ≤ suc (length ws)
      go true h = omega arith
      go false h = omega arith

  pub passed_before : (ws : List (List Bool)) (j : ℕ) → j < lowest test ws → T (test (get_or ws j []))
  unfolding lowest
  passed_before [] j h = absurd (omega arith)
  passed_before (w ∷ ws) zero h = go (test w) refl h
    where
      go : (b : Bool) → test w ≡ b → 0 < cond b (suc (lowest test ws)) 0 → T (test w)
      go true e h = holds (test w) e
      go false e h = absurd (omega arith)
  passed_before (w ∷ ws) (suc j) h = passed_before ws j (go (test w) h)
    where
      go : (b : Bool) → suc j < cond b (suc (lowest test ws)) 0 → j < lowest test ws
      go true h = omega arith
      go false h = absurd (omega arith)

  pub failed_there : (ws : List (List Bool)) → lowest test ws < length ws → test (get_or ws (lowest test ws) []) ≡ false
  failed_there [] h = absurd (omega arith)
  failed_there (w ∷ ws) h = go (test w) refl (failed_there ws)
    where
      go : (b : Bool) → test w ≡ b → (lowest test ws < length ws → test (get_or ws (lowest test ws) []) ≡ false)
          → test (get_or (w ∷ ws) (lowest test (w ∷ ws)) []) ≡ false
      go true e f =
          let s : lowest test (w ∷ ws) ≡ suc (lowest test ws) = lowest_passed w ws e in
          rw s (f (omega arith))
      go false e f = rw (lowest_failed w ws e) e

  -- ---- a row after another

  pub lowest_front : (ws vs : List (List Bool)) → lowest test ws < length ws → lowest test (ws ++ vs) ≡ lowest test ws
  unfolding lowest
  lowest_front [] vs h = absurd (omega arith)
  lowest_front (w ∷ ws) vs h = go (test w) h (lowest_front ws vs)
    where
      go : (b : Bool) → cond b (suc (lowest test ws)) 0 < suc (length ws) → (lowest test ws < length ws → lowest test (ws ++ vs) ≡ lowest test ws)
          → cond b (suc (lowest test (ws ++ vs))) 0 ≡ cond b (suc (lowest test ws)) 0
      go true h f = ap suc (f (omega arith))
      go false h f = refl

  pub lowest_back : (ws vs : List (List Bool)) → lowest test ws ≡ length ws → lowest test (ws ++ vs) ≡ length ws + lowest test vs
  unfolding lowest
  lowest_back [] vs h = omega arith
  lowest_back (w ∷ ws) vs h = go (test w) h (lowest_back ws vs)
    where
      go : (b : Bool) → cond b (suc (lowest test ws)) 0 ≡ suc (length ws) → (lowest test ws ≡ length ws → lowest test (ws ++ vs) ≡ length ws + lowest test vs)
          → cond b (suc (lowest test (ws ++ vs))) 0 ≡ suc (length ws) + lowest test vs
      go true h f = omega (arith, f (omega arith))
      go false h f = absurd (omega arith)

  -- ---- where every word passes

  pub lowest_all : (ws : List (List Bool)) → ((i : ℕ) → i < length ws → T (test (get_or ws i []))) → lowest test ws ≡ length ws
  lowest_all [] h = unfold lowest in refl
  lowest_all (w ∷ ws) h =
      lowest_passed w ws (is_true (test w) (h 0 (omega arith))) ∙ ap suc (lowest_all ws (λ i k. h (suc i) (omega arith)))
