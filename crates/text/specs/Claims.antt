-- What the digits write, for every number. proofs/Claims.antt proves it. demands/specs/Demands.antt says how to read a clause.
-- Assumes nothing.
use Rattle.std.specs.Prelude.{Bool, true, false, List, [], ◌∷◌, ◌++◌, ◌≡◌, ℕ, ◌+◌, ◌*◌, ◌-◌, ◌≤◌, ◌<◌, eqb, ℤ, pos, neg_ℤ, length, get_or}
use Rattle.text.specs.Text.{ascii, decimal, signed}

-- the number that decimal digits write, after a number in front
unfoldable pub decimal_value : ℕ → List ℕ → ℕ
decimal_value front [] = front
decimal_value front (d ∷ ds) = decimal_value (front * 10 + (d - 48)) ds

-- the number that a byte and the digits after it write: below 0 where the byte is a minus
abbrev pub signed_by : Bool → ℕ → List ℕ → ℤ
signed_by true c ds = neg_ℤ (pos (decimal_value 0 ds))
signed_by false c ds = pos (decimal_value 0 (c ∷ ds))

unfoldable pub signed_value : List ℕ → ℤ
signed_value [] = pos 0
signed_value (c ∷ ds) = signed_by (eqb c 45) c ds

pub record NumbersWritten : Type 0 where
  -- the digits write the number; each is one of `0` to `9`; only the number 0 begins with `0`
  pub value : (n : ℕ) → decimal_value 0 (decimal n) ≡ n
  pub digit : (n i : ℕ) → i < length (decimal n) → (48 ≤ get_or (decimal n) i 0) × (get_or (decimal n) i 0 < 58)
  pub no_zero_first : (n : ℕ) → 0 < n → ¬ (get_or (decimal n) 0 0 ≡ 48)
  -- with its sign: "a minus below 0 and no plus"
  pub value_of_signed : (z : ℤ) → signed_value (signed z) ≡ z
  pub minus : (n : ℕ) → 0 < n → signed (neg_ℤ (pos n)) ≡ ascii "-" ++ decimal n
  pub no_plus : (n : ℕ) → signed (pos n) ≡ decimal n
