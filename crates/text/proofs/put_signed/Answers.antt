-- `text::put_signed` meets its contract: a minus below 0, then the digits.
-- Assumes nothing.
use mathlib.Core.Bool.{Bool, true, false}
use mathlib.Core.List.{List, ◌++◌}
use mathlib.Core.Path.{◌≡◌, refl, sym, ap, subst, ◌∙◌}
use Prim.Native.Nat.{ℕ, ◌+◌, zero-le}
use native.Mathlib.Omega.{arith}
use lib.Dec.{T, le→leb}
use lib.IntN.{ℤ, pos, negsuc, nat_abs}
use lib.ListN.{length, length-append}
use lib.Seq.{sets}
use lib.Signed.{le_z}
use mir.Facts.{to_z-of_z}
use mir.Syntax.{w64}
use mir.Val.{SFits, to_z, of_z}
use Rattle.text.specs.Text.{ascii, decimal, signed}
use Rattle.text.proofs.Storing.{Put, put_put}
use Rattle.text.proofs.put_signed.Goals as goal

-- from 0 on, the digits alone
from_zero : (z : ℤ) → le_z (pos 0) z ≡ true → signed z ≡ decimal (nat_abs z)
unfolding signed
from_zero (pos n) t = refl
from_zero (negsuc n) t = absurd (subst T (sym t) tt)

-- below 0, a minus and the digits
below_zero : (z : ℤ) → le_z (pos 0) z ≡ false → signed z ≡ ascii "-" ++ decimal (nat_abs z)
unfolding signed
below_zero (pos n) t = absurd (subst T t (le→leb 0 n zero-le))
below_zero (negsuc n) t = refl

-- the test at a number as it is held
tested : {b : Bool} {z : ℤ} → SFits w64 z → le_z (pos 0) (to_z w64 (of_z w64 z)) ≡ b → le_z (pos 0) z ≡ b
tested f t = ap (le_z (pos 0)) (sym (to_z-of_z f)) ∙ t

pub put_decimal-requires : goal.put_decimal-requires
put_decimal-requires c =
    let positive : signed c.args.z ≡ decimal c.unsigned_abs.result = from_zero c.args.z (tested c.ranges.z c.if-z-ge0.true) ∙ ap decimal (sym (c.unsigned_abs.ensures.value ∙ ap nat_abs (to_z-of_z c.ranges.z))) in
    omega (arith, c.requires, ap length (positive))

pub returns-then-z-ge0 : goal.returns-then-z-ge0
returns-then-z-ge0 c =
    let positive : signed c.args.z ≡ decimal c.unsigned_abs.result = from_zero c.args.z (tested c.ranges.z c.if-z-ge0.true) ∙ ap decimal (sym (c.unsigned_abs.ensures.value ∙ ap nat_abs (to_z-of_z c.ranges.z))) in
    let a = c.args in
    let e = positive in record { place = c.put_decimal.ensures.place ∙ ap (λ (l : List ℕ). a.at + length l) (sym e); bytes = c.put_decimal.ensures.bytes ∙ ap (sets a.line.now a.at) (sym e) }

pub put_text-digits-requires : goal.put_text-digits-requires
put_text-digits-requires c =
    let minus : signed c.args.z ≡ ascii "-" ++ decimal (nat_abs c.args.z) = below_zero c.args.z (tested c.ranges.z c.if-z-ge0.false) in
    omega (arith, c.requires, ap length (minus), length-append (ascii "-") (decimal (nat_abs c.args.z)))

pub put_decimal-requires-2 : goal.put_decimal-requires-2
put_decimal-requires-2 c =
    let minus : signed c.args.z ≡ ascii "-" ++ decimal (nat_abs c.args.z) = below_zero c.args.z (tested c.ranges.z c.if-z-ge0.false) in
    let far : c.unsigned_abs-2.result ≡ nat_abs c.args.z = c.unsigned_abs-2.ensures.value ∙ ap nat_abs (to_z-of_z c.ranges.z) in
    omega (
      arith,
      c.requires,
      ap length (minus),
      length-append (ascii "-") (decimal (nat_abs c.args.z)),
      c.put_text-digits.ensures.place,
      c.put_text-digits.auto.line,
      ap (λ (n : ℕ). length (decimal n)) (far),
    )

pub returns : goal.returns
returns c =
    let minus : signed c.args.z ≡ ascii "-" ++ decimal (nat_abs c.args.z) = below_zero c.args.z (tested c.ranges.z c.if-z-ge0.false) in
    let far : c.unsigned_abs-2.result ≡ nat_abs c.args.z = c.unsigned_abs-2.ensures.value ∙ ap nat_abs (to_z-of_z c.ranges.z) in
    let a = c.args in
    let sign : Put a.line.now a.at (ascii "-") c.put_text-digits.result c.put_text-digits.new.line
    = record { place = c.put_text-digits.ensures.place; bytes = c.put_text-digits.ensures.bytes } in
    let digits : Put c.put_text-digits.new.line c.put_text-digits.result (decimal (nat_abs a.z)) c.put_decimal-2.result c.put_decimal-2.new.line
    = subst (λ (n : ℕ). Put c.put_text-digits.new.line c.put_text-digits.result (decimal n) c.put_decimal-2.result c.put_decimal-2.new.line)
    (far)
    (record {
      place = omega (arith, sign.place, c.put_decimal-2.ensures.place);
      bytes = c.put_decimal-2.ensures.bytes ∙ ap (λ (k : ℕ). sets c.put_text-digits.new.line k (decimal c.unsigned_abs-2.result)) (omega (arith, sign.place));
    }) in
    let whole = put_put sign digits in record { place = whole.place ∙ ap (λ (l : List ℕ). a.at + length l) (sym (minus)); bytes = whole.bytes ∙ ap (sets a.line.now a.at) (sym (minus)) }
