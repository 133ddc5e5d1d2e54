-- Cells that are kept: over rows of cells, one after another, and as bits of bytes.
-- Assumes nothing.
use mathlib.Core.Bool.{Bool, true, false, not, ◌||◌}
use mathlib.Core.List.{List, [], ◌∷◌, ◌++◌}
use mathlib.Core.Logic.{⊎_elim}
use mathlib.Core.Path.{◌≡◌, refl, sym, ◌∙◌, subst}
use Prim.Native.Nat.{ℕ, zero, suc, ◌<◌}
use native.Mathlib.Omega.{arith}
use borrow.Author.Tests.{ltb-true, ltb-false}
use lib.Dec.{T, ltb}
use lib.ListN.{length, get_or}
use mir.Facts.{and_yes, yes_and}
use Rattle.cells.specs.Cells.{first, rest, bit, cells, kept}
use Rattle.cells.specs.Bytes.{bits, Bytes}
use Rattle.cells.proofs.Tests.{lt_cases}
use Rattle.cells.proofs.Numbers.{length_cells}
use Rattle.cells.proofs.Bits.{bit_high, bit_zero}

pub kept_self : (cs : List Bool) → T (kept cs cs)
unfolding kept first rest
kept_self [] = tt
kept_self (true ∷ cs) = kept_self cs
kept_self (false ∷ cs) = kept_self cs

pub kept_append : (a b c d : List Bool) → length a ≡ length c → T (kept a c) → T (kept b d) → T (kept (a ++ b) (c ++ d))
unfolding kept first rest
kept_append [] b [] d e s t = t
kept_append [] b (z ∷ c) d e s t = absurd (omega arith)
kept_append (x ∷ a) b [] d e s t = absurd (omega arith)
kept_append (x ∷ a) b (z ∷ c) d e s t =
    let p = and_yes (not x || z) (kept a c) s in
    yes_and (not x || z) (kept (a ++ b) (c ++ d)) p.0 (kept_append a b c d (omega arith) p.1 t)

kept_parts : (a b c d : List Bool) → length a ≡ length c → T (kept (a ++ b) (c ++ d)) → T (kept a c) × T (kept b d)
unfolding kept first rest
kept_parts [] b [] d e t = (tt, t)
kept_parts [] b (z ∷ c) d e t = absurd (omega arith)
kept_parts (x ∷ a) b [] d e t = absurd (omega arith)
kept_parts (x ∷ a) b (z ∷ c) d e t =
    let p = and_yes (not x || z) (kept (a ++ b) (c ++ d)) t in
    let q = kept_parts a b c d (omega arith) p.1 in
    (yes_and (not x || z) (kept a c) p.0 q.0, q.1)

kept_cells : (n x y : ℕ) → T (kept (cells n x) (cells n y)) → (b : ℕ) → b < n → T (bit x b) → T (bit y b)
unfolding kept cells first rest
kept_cells zero x y k b h t = absurd (omega arith)
kept_cells (suc n) x y k b h t =
    let p = and_yes (not (bit x n) || bit y n) (kept (cells n x) (cells n y)) k in
    ⊎_elim (λ e. rw e (set (bit x n) (bit y n) p.0 (rw e at t))) (λ l. kept_cells n x y p.1 b l t) (lt_cases h)
  where
    set : (c d : Bool) → T (not c || d) → T c → T d
    set true d k t = k
    set false d k t = absurd t

pub kept_bits : (p q : List ℕ) → length p ≡ length q → Bytes p → T (kept (bits p) (bits q))
    → (i b : ℕ) → T (bit (get_or p i 0) b) → T (bit (get_or q i 0) b)
unfolding bits
kept_bits [] q e h k i b t = absurd (subst T (bit_zero b) t)
kept_bits (x ∷ p) [] e h k i b t = absurd (omega arith)
kept_bits (x ∷ p) (y ∷ q) e h k zero b t = go (ltb b 8) refl
  where
    go : (c : Bool) → ltb b 8 ≡ c → T (bit y b)
    go true c =
        kept_cells 8 x y (kept_parts (cells 8 x) (bits p) (cells 8 y) (bits q) (length_cells 8 x ∙ sym (length_cells 8 y)) k).0
        b (ltb-true b 8 c) t
    go false c = absurd (subst T (bit_high x 8 b (h 0) (ltb-false b 8 c)) t)
kept_bits (x ∷ p) (y ∷ q) e h k (suc i) b t =
    kept_bits p q (omega arith) (λ j. h (suc j))
    (kept_parts (cells 8 x) (bits p) (cells 8 y) (bits q) (length_cells 8 x ∙ sym (length_cells 8 y)) k).1 i b t
