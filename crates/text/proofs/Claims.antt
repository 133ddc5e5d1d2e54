-- The claim of specs/Claims.antt.
-- Assumes nothing.
use mathlib.Core.List.{List, [], ◌∷◌, ◌++◌}
use mathlib.Core.Path.{◌≡◌, refl, ap, ◌∙◌}
use Prim.Native.Nat.{ℕ, zero, suc, ◌≤◌, ◌<◌}
use native.Mathlib.Omega.{arith}
use borrow.Author.Tests.{ne_eqb}
use lib.IntN.{ℤ, pos, negsuc, neg_ℤ}
use lib.ListN.{length, get_or}
use Rattle.text.specs.Text.{ascii, decimal, signed}
use Rattle.text.specs.Claims.{NumbersWritten, decimal_value, signed_value}
use Rattle.text.proofs.Decimals.{decimal_some, decimal_value_lem, decimal_digit, decimal_first}

-- a number that begins with a digit is read as it stands
digits_value : (ds : List ℕ) → 0 < length ds → 48 ≤ get_or ds 0 0 → signed_value ds ≡ pos (decimal_value 0 ds)
unfolding signed_value
digits_value [] h d = absurd (omega arith)
digits_value (c ∷ ds) h d = rw (ne_eqb c 45 (omega arith)) refl

value_of_signed : (z : ℤ) → signed_value (signed z) ≡ z
unfolding signed signed_value
value_of_signed (pos n) =
    digits_value (decimal n) (decimal_some n) (decimal_digit n 0 (decimal_some n)).0 ∙ ap pos (decimal_value_lem n)
value_of_signed (negsuc n) = ap (λ (k : ℕ). neg_ℤ (pos k)) (decimal_value_lem (suc n))

minus : (n : ℕ) → 0 < n → signed (neg_ℤ (pos n)) ≡ ascii "-" ++ decimal n
unfolding signed
minus zero h = absurd (omega arith)
minus (suc n) h = refl

pub numbers_written : NumbersWritten
unfolding signed
numbers_written = record {
  value = decimal_value_lem;
  digit = decimal_digit;
  no_zero_first = decimal_first;
  value_of_signed = value_of_signed;
  minus = minus;
  no_plus = λ n. refl;
}
