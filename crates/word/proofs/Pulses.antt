-- The pulses of a fill, over any number of cells, and of a word held as a number.
-- Assumes nothing.
use mathlib.Core.Bool.{Bool, true, false, cond}
use mathlib.Core.List.{List, [], ◌∷◌}
use mathlib.Core.Path.{◌≡◌, ap, ◌∙◌}
use Prim.Native.Nat.{ℕ, ◌+◌, ◌*◌, ◌^◌, ◌≤◌, ◌<◌}
use native.Mathlib.Omega.{arith}
use lib.Dec.{T}
use lib.ListN.{length}
use Rattle.cells.specs.Cells.{first, number, cells, kept, set_cells, newly_set, pulses}
use Rattle.cells.proofs.Tests.{is_true}
use Rattle.cells.proofs.Pulses.{set_cells_le, pulses_newly, pulses_exact}
use Rattle.word.specs.Word.{sparse}
use Rattle.word.specs.Fill.{fill, fill_pulses}
use Rattle.word.proofs.Filling.{length_fill, kept_fill, fill_apart}
use Rattle.word.proofs.FreeCells.{fill_lt, cells_fill}

module _ (w : List Bool) where
  pub fill_newly : fill_pulses w ≡ newly_set w (fill w)
  unfolding fill_pulses fill
  fill_newly = pulses_newly w (fill w) (length_fill false w) (kept_fill false w)

  pub fill_exact : set_cells w + fill_pulses w ≡ set_cells (fill w)
  unfolding fill_pulses fill
  fill_exact = pulses_exact w (fill w) (length_fill false w) (kept_fill false w)

  -- no more than there are cells
  pub fill_pulses_le : fill_pulses w ≤ length w
  unfolding fill
  fill_pulses_le = omega (arith, fill_exact, set_cells_le (fill w), length_fill false w)

-- of n cells without neighbours at most half are set, and one more where n is odd
sparse_half : (left : Bool) (cs : List Bool) → T (sparse (left ∷ cs)) → 2 * set_cells cs ≤ length cs + cond left 0 1
unfolding set_cells sparse first
sparse_half true [] t = omega arith
sparse_half false [] t = omega arith
sparse_half true (true ∷ cs) t = absurd t
sparse_half true (false ∷ cs) t = omega (arith, sparse_half false cs t)
sparse_half false (true ∷ cs) t = omega (arith, sparse_half true cs t)
sparse_half false (false ∷ cs) t = omega (arith, sparse_half false cs t)

pub fill_pulses_half : (w : List Bool) → T (sparse w) → 2 * fill_pulses w ≤ length w + 1
unfolding fill sparse first
fill_pulses_half w t = omega (arith, fill_exact w, sparse_half false (fill w) (fill_apart w t), length_fill false w)

-- f is w filled
module _ (w f : List Bool) (e : f ≡ fill w) where
  pub fill_kept : kept w f ≡ true
  unfolding fill
  fill_kept = rw e (is_true (kept w (fill w)) (kept_fill false w))

  pub pulses_filled : pulses w f ≡ fill_pulses w
  unfolding fill_pulses
  pulses_filled = ap (pulses w) e

-- w is a word, and f that word filled
module _ (w f : ℕ) (e : f ≡ number (fill (cells 46 w))) where
  filled_cells_lem : cells 46 f ≡ fill (cells 46 w)
  filled_cells_lem = ap (cells 46) e ∙ cells_fill w

  pub filled_small : f < 2 ^ 46
  filled_small = omega (arith, e, fill_lt w)

  pub filled_kept : kept (cells 46 w) (cells 46 f) ≡ true
  unfolding fill
  filled_kept = rw filled_cells_lem (is_true (kept (cells 46 w) (fill (cells 46 w))) (kept_fill false (cells 46 w)))

  pub filled_pulses : pulses (cells 46 w) (cells 46 f) ≡ fill_pulses (cells 46 w)
  unfolding fill_pulses
  filled_pulses = ap (pulses (cells 46 w)) filled_cells_lem
