-- The shape that an operation found for its page: what the checks and the steps after them ask of it. Assumes nothing.
use mathlib.Core.Path.{◌≡◌}
use Prim.Native.Nat.{ℕ, ◌*◌, ◌^◌, ◌≤◌, ◌<◌}
use native.Mathlib.Omega.{arith}
use Rattle.window.specs.Words.{start}
use Rattle.rows.specs.declared.shape.Shape.{Shape}
use Rattle.rows.specs.Page.{shape_for}
use Rattle.rows.proofs.Shapes.{sound_found, words_inside}

module _ (s : Shape) (k : ℕ) (e : s ≡ shape_for k) where
  -- what a check of a page by it requires
  pub found_inside : (start s.words ≤ 8 * s.size) × (s.size < 2 ^ 16)
  found_inside = let f = sound_found s k e in (words_inside f, omega (arith, f.small))

  -- a page of its size has a first byte
  pub found_first : k ≡ s.size → 0 < k
  found_first l = let f = sound_found s k e in omega (arith, f.inside)
