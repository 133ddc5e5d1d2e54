-- Bytes stored one after another (`sets` of lib.Seq).
-- Assumes nothing.
use mathlib.Core.List.{List, [], ◌∷◌, ◌++◌}
use mathlib.Core.Path.{◌≡◌, sym, ap, ap₂, ◌∙◌}
use Prim.Native.Nat.{ℕ, suc, ◌+◌, ◌≤◌, ◌<◌}
use native.Mathlib.Nat.{add-zero, add-suc, suc-add}
use native.Mathlib.Numerals.{add-one}
use native.Mathlib.Omega.{arith}
use lib.ListN.{length, take, drop, set, get_or}
use lib.Seq.{sets, sets-eq, paste, take-suc, take_all, length-take-le}
use Rattle.cells.specs.Bytes.{at_start}

-- one run after another is both at once
pub sets_append : (out : List ℕ) (at : ℕ) (a b : List ℕ) → sets (sets out at a) (at + length a) b ≡ sets out at (a ++ b)
sets_append out at [] b = ap (λ (k : ℕ). sets out k b) (add-zero at)
sets_append out at (x ∷ a) b =
    ap (λ (k : ℕ). sets (sets (set out at x) (suc at) a) k b) (add-suc at (length a) ∙ sym (suc-add at (length a)))
    ∙ sets_append (set out at x) (suc at) a b

-- the same, where the second one's place is known by an equation
pub sets_then : (out : List ℕ) (at : ℕ) (a b : List ℕ) (k : ℕ) → k ≡ at + length a → sets (sets out at a) k b ≡ sets out at (a ++ b)
sets_then out at a b k e = ap (λ (j : ℕ). sets (sets out at a) j b) e ∙ sets_append out at a b

-- a turn of a loop that stores a run
pub sets_turn : (out : List ℕ) (at : ℕ) (s : List ℕ) (i : ℕ) → i < length s
    → set (sets out at (take i s)) (at + i) (get_or s i 0) ≡ sets out at (take (i + 1) s)
sets_turn out at s i h =
    sets_then out at (take i s) (get_or s i 0 ∷ []) (at + i) (ap (λ (k : ℕ). at + k) (sym (length-take-le i s (omega arith))))
    ∙ ap (sets out at) (sym (take-suc s i 0 h) ∙ ap (λ (k : ℕ). take k s) (sym (add-one i)))

-- a copy stores what it copies
pub sets_paste : (out : List ℕ) (at : ℕ) (s : List ℕ) (n : ℕ) → n ≡ length s → at + n ≤ length out → paste out at s n ≡ sets out at s
sets_paste out at s n e h =
    ap₂ (λ (t : List ℕ) (k : ℕ). take at out ++ t ++ drop (at + k) out) (take_all n s (omega arith)) e ∙ sym (sets-eq s out at (omega arith))

-- a run stored at the start
pub sets_at_start : (out s : List ℕ) → length s ≤ length out → sets out 0 s ≡ at_start s out
unfolding at_start
sets_at_start out s h = let e : 0 + length s ≡ length s = omega arith in sets-eq s out 0 (omega arith) ∙ ap (λ (k : ℕ). s ++ drop k out) e
