-- Remainders: what is left of a value once weights have been tried, the largest first. Over any number of weights.
-- Assumes nothing.
use mathlib.Core.Bool.{Bool, true, false, cond}
use mathlib.Core.Path.{◌≡◌, refl, ◌∙◌}
use Prim.Native.Nat.{ℕ, zero, suc, ◌+◌, ◌-◌, ◌≤◌, ◌<◌}
use native.Mathlib.Nat.{suc-add, zero-add}
use native.Mathlib.Omega.{arith}
use borrow.Author.Tests.{le-leb, lt-leb}
use lib.Dec.{leb}
use lib.ListN.{get_or}
use Rattle.word.specs.Word.{weight, tried, zeckendorf, remainder}
use Rattle.word.proofs.Weights.{weight_mono}
use Rattle.word.proofs.Sums.{tried_weight}

-- where no weight has been tried
pub untouched : (n k x : ℕ) → n < k → remainder n k x ≡ x
unfolding remainder
untouched zero k x h = refl
untouched (suc n) k x h = rw (lt-leb k (suc n) h)

-- the largest weight is the first
largest_first : (n k x : ℕ) → k ≤ suc n → remainder (suc n) k x ≡ remainder n k (tried (weight (suc n)) x)
unfolding remainder
largest_first n k x h = rw (le-leb k (suc n) h)

-- the weights in two parts: those above number m, then number m and below
pub in_parts : (n m k x : ℕ) → m ≤ n → k ≤ suc m → remainder n k x ≡ remainder m k (remainder n (suc m) x)
in_parts n m k x l h = let e : (n - m) + m ≡ n = omega arith in rw e at (go (n - m) x)
  where
    go : (d x : ℕ) → remainder (d + m) k x ≡ remainder m k (remainder (d + m) (suc m) x)
    go zero x = rw (zero-add m, untouched m (suc m) x (omega arith))
    go (suc d) x =
        rw (suc-add d m, largest_first (d + m) k x (omega arith), largest_first (d + m) (suc m) x (omega arith))
        (go d (tried (weight (suc (d + m))) x))

-- one weight more
pub one_more : (n m x : ℕ) → m < n → remainder n (suc m) x ≡ tried (weight (suc m)) (remainder n (suc (suc m)) x)
one_more n m x h =
    let y = remainder n (suc (suc m)) x in
    in_parts n (suc m) (suc m) x h (omega arith) ∙ largest_first m (suc m) y (omega arith)
    ∙ untouched m (suc m) (tried (weight (suc m)) y) (omega arith)

-- weights above the value are not taken
pub passed_over_lem : (n m x : ℕ) → m ≤ n → x < weight (suc m) → remainder n (suc m) x ≡ x
passed_over_lem n m x l h = let e : (n - m) + m ≡ n = omega arith in rw e at (go (n - m))
  where
    go : (d : ℕ) → remainder (d + m) (suc m) x ≡ x
    go zero = rw (zero-add m) (untouched m (suc m) x (omega arith))
    go (suc d) =
        let l : x < weight (suc (d + m)) = omega (arith, weight_mono (suc m) (suc (d + m)) (omega arith)) in
        rw (suc-add d m, largest_first (d + m) (suc m) x (omega arith), lt-leb (weight (suc (d + m))) x l) (go d)

-- less is left than the last weight that has been tried
pub remainder_lt : (n m x : ℕ) → m ≤ n → x < weight (suc n) → remainder n (suc m) x < weight (suc m)
remainder_lt n m x l h = let e : (n - m) + m ≡ n = omega arith in rw e at (go (n - m) x (rw e h))
  where
    go : (d x : ℕ) → x < weight (suc (d + m)) → remainder (d + m) (suc m) x < weight (suc m)
    go zero x h = rw (zero-add m, untouched m (suc m) x (omega arith)) (rw (zero-add m) at h)
    go (suc d) x h =
        rw (suc-add d m, largest_first (d + m) (suc m) x (omega arith))
        (go d (tried (weight (suc (d + m))) x) (tried_weight (d + m) x (rw (suc-add d m) at h)))

tried_le : (w x : ℕ) → tried w x ≤ x
tried_le w x = go (leb w x)
  where
    go : (s : Bool) → cond s (x - w) x ≤ x
    go true = omega arith
    go false = omega arith

-- and never more than the value
pub remainder_le : (n k x : ℕ) → remainder n k x ≤ x
unfolding remainder
remainder_le zero k x = omega arith
remainder_le (suc n) k x = go (leb k (suc n)) (remainder_le n k (tried (weight (suc n)) x))
  where
    go : (s : Bool) → remainder n k (tried (weight (suc n)) x) ≤ tried (weight (suc n)) x
        → cond s (remainder n k (tried (weight (suc n)) x)) x ≤ x
    go true h = omega (arith, h, tried_le (weight (suc n)) x)
    go false h = omega arith

-- the cell of weight number n - c goes by what was left before it
pub cell_of : (n c x : ℕ) → c < n → get_or (zeckendorf n x) c false ≡ leb (weight (n - c)) (remainder n (suc (n - c)) x)
unfolding zeckendorf
cell_of zero c x h = absurd (omega arith)
cell_of (suc n) zero x h = let e : suc n - 0 ≡ suc n = omega arith in rw (e, untouched (suc n) (suc (suc n)) x (omega arith))
cell_of (suc n) (suc c) x h =
    let e : suc n - suc c ≡ n - c = omega arith in
    rw (e, largest_first n (suc (n - c)) x (omega arith)) (cell_of n c (tried (weight (suc n)) x) (omega arith))
