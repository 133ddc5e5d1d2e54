-- Cells that are kept: over words that are filled, and over pages.
-- Assumes nothing.
use mathlib.Core.Bool.{Bool, false}
use mathlib.Core.List.{List, [], ◌∷◌, ◌++◌}
use mathlib.Core.Path.{◌≡◌, refl, sym, ◌∙◌}
use Prim.Native.Nat.{ℕ}
use native.Mathlib.Omega.{arith}
use lib.Dec.{T}
use lib.ListN.{length}
use Rattle.cells.specs.Cells.{first, rest, bit, cells, kept}
use Rattle.cells.specs.Bytes.{bits}
use Rattle.cells.proofs.Numbers.{length_cells}
use Rattle.cells.proofs.Kept.{kept_append, kept_self}
use Rattle.window.specs.Words.{join}
use Rattle.window.proofs.Words.{length_join}
use Rattle.word.specs.Fill.{fill}
use Rattle.word.proofs.Claims.{fill_leaves_no_room}
use Rattle.word.proofs.Filling.{length_fill}
use Rattle.rows.specs.declared.shape.Shape.{Shape}
use Rattle.rows.specs.Page.{fill_all}
use Rattle.rows.proofs.EachWord.{Row}
use Rattle.rows.proofs.Shapes.{Sound}
use Rattle.demands.proofs.Laid.{laid, laid_bits}

-- ---- words

pub kept_fill_all : (ws : List (List Bool)) → T (kept (join ws) (join (fill_all ws)))
unfolding join fill_all kept fill
kept_fill_all [] = tt
kept_fill_all (w ∷ ws) =
    kept_append w (join ws) (fill w) (join (fill_all ws)) (sym (length_fill false w)) (fill_leaves_no_room.keeps w) (kept_fill_all ws)

-- ---- headers: the state gains cells, and the length, which is 0, becomes any two bytes

abbrev Header : ℕ → ℕ → ℕ → List ℕ
Header a k l = a ∷ k ∷ l ∷ []

header_kept : (a b k l : ℕ) → T (kept (cells 8 a) (cells 8 b)) → T (kept (bits (Header a 0 0)) (bits (Header b k l)))
unfolding bits
header_kept a b k l h =
    kept_append (cells 8 a) (bits (0 ∷ 0 ∷ [])) (cells 8 b) (bits (k ∷ l ∷ [])) (length_cells 8 a ∙ sym (length_cells 8 b)) h zeros_kept
  where
    zeros_kept : T (kept (bits (0 ∷ 0 ∷ [])) (bits (k ∷ l ∷ [])))
    zeros_kept = unfold kept bits cells bit first rest in tt

same_length : (a b k l : ℕ) → length (bits (Header a 0 0)) ≡ length (bits (Header b k l))
unfolding bits cells
same_length a b k l = refl

-- ---- pages

pub kept_laid : {σ : Shape} → Sound σ → (a b k l : ℕ) (ws vs : List (List Bool)) (t : List ℕ) → Row σ.words ws → Row σ.words vs
    → T (kept (cells 8 a) (cells 8 b)) → T (kept (join ws) (join vs))
    → T (kept (bits (laid a 0 0 ws t)) (bits (laid b k l vs t)))
kept_laid {σ} f a b k l ws vs t r s h j =
    rw (laid_bits f a 0 0 ws r t, laid_bits f b k l vs s t)
    (kept_append (bits (Header a 0 0)) (join ws ++ bits t) (bits (Header b k l)) (join vs ++ bits t)
    (same_length a b k l)
    (header_kept a b k l h)
    (kept_append (join ws) (bits t) (join vs) (bits t)
    (omega (arith, length_join ws r.1, length_join vs s.1, r.0, s.0))
    j
    (kept_self (bits t))))
