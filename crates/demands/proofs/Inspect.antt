-- The figures of the Inspect code (specs/Inspect.antt).
-- Assumes nothing.
use mathlib.Core.Bool.{true, false}
use mathlib.Core.List.{List}
use mathlib.Core.Path.{◌≡◌, refl, ap, ap₂, ◌∙◌}
use Prim.Native.Nat.{ℕ, zero, suc, min, ◌*◌, ◌≤◌, ◌<◌}
use native.Mathlib.Omega.{arith}
use lib.ListN.{length, replicate, length-replicate}
use Rattle.cells.specs.Cells.{bit, cells}
use Rattle.cells.specs.Bytes.{bits, Bytes}
use Rattle.cells.proofs.Bits.{cells_zero}
use Rattle.cells.proofs.Bytes.{length_bits}
use Rattle.cells.proofs.Fits.{bits_alike}
use Rattle.answer.specs.Answer.{refusal}
use Rattle.window.specs.Words.{page_words}
use Rattle.rows.specs.declared.shape.Shape.{Shape}
use Rattle.rows.specs.Page.{FirstRoundOf}
use Rattle.rows.specs.Code.{longest, sure, room_for, FitsOf}
use Rattle.rows.proofs.EachWord.{Row}
use Rattle.rows.proofs.Shapes.{Sound, sound256, sound512}
use Rattle.walk.proofs.Claims.{zero_legal}
use Rattle.inspect.specs.Rows.{taken_all, inspect_code}
use Rattle.inspect.specs.Answer.{write_inspect_answer}
use Rattle.inspect.proofs.Rows.{taken_all_bits, taken_all_most, taken_all_least, taken_all_ones, taken_all_zeros}
use Rattle.demands.specs.Inspect.{InspectFiguresOf, InspectFigures}
use Rattle.demands.proofs.Laid.{laid_row}
use Rattle.demands.proofs.Bounds.{all_alike}
use Rattle.demands.proofs.Codes.{inspect_writing}

-- of bytes, so that numerals can be given
length_alike : (n b : ℕ) → length (replicate n b) ≡ n
length_alike n b = length-replicate n b

Bytes-alike : (n b : ℕ) → b < 256 → Bytes (replicate n b)
Bytes-alike zero b h i = omega arith
Bytes-alike (suc n) b h zero = h
Bytes-alike (suc n) b h (suc i) = Bytes-alike n b h i

eight_ones : cells 8 255 ≡ replicate 8 true
unfolding cells bit
eight_ones = refl

module _ {σ : Shape} (f : Sound σ) where
  abbrev n : ℕ
  n = σ.words

  abbrev taken : List ℕ → List ℕ → ℕ
  taken P R = room_for inspect_code σ P R

  -- ---- what the walks take

  module _ (P R : List ℕ) (p : FirstRoundOf σ P) where
    row : Row n (page_words P n)
    row = laid_row f P p.sized

    taken_most : taken P R ≤ 45 * n
    taken_most = omega (arith, taken_all_most (page_words P n) (bits R) row.1, row.0)

    taken_enough : 23 * n ≤ 8 * length R → 23 * n ≤ taken P R
    taken_enough h = omega (arith, taken_all_least (page_words P n) (bits R) row.1, row.0, length_bits R)

    all_taken : FitsOf inspect_code σ R P → taken P R ≡ 8 * length R
    all_taken r = omega (arith, r.enough, taken_all_bits (page_words P n) (bits R), length_bits R)

  -- the page of words of zeros: zeros take the most bits of it, ones the least, as of any page
  zero_page_lem : (P : List ℕ) × FirstRoundOf σ P × (page_words P n ≡ replicate n (replicate 46 false))
  zero_page_lem = all_alike f (replicate 46 false) zero_legal

  abbrev Z : List ℕ
  Z = zero_page_lem.0

  zeros_taken : (k : ℕ) → taken Z (replicate k 0) ≡ min (8 * k) (45 * n)
  zeros_taken k = ap₂ taken_all zero_page_lem.2 (bits_alike k 0 false (cells_zero 8)) ∙ taken_all_zeros n (8 * k)

  ones_taken : (k : ℕ) → taken Z (replicate k 255) ≡ min (8 * k) (23 * n)
  ones_taken k =
      let r = laid_row f Z zero_page_lem.1.sized in
      ap (taken_all (page_words Z n)) (bits_alike k 255 true eight_ones) ∙ taken_all_ones (page_words Z n) (8 * k) r.1
      ∙ ap (λ (j : ℕ). min (8 * k) (23 * j)) r.0

  -- a record that does not fit the page of zeros
  too_long : (R : List ℕ) (k : ℕ) → taken Z R ≡ k → k < 8 * length R → write_inspect_answer Z R ≡ refusal 8 k
  too_long R k e h = ((inspect_writing f).remains Z R zero_page_lem.1 (omega (arith, e))).0 ∙ ap (refusal 8) e

  -- ---- the figures

  figures_of : (fewest most sureBytes longestBytes : ℕ) → fewest ≡ 23 * n → most ≡ 45 * n → sureBytes ≡ sure inspect_code σ → longestBytes ≡ longest inspect_code σ
      → InspectFiguresOf σ fewest most sureBytes longestBytes
  figures_of fewest most k m ef em ek el = record {
    all_taken = all_taken;
    least = λ P R p h. omega (arith, taken_enough P R p (omega arith));
    greatest = λ P R p. omega (arith, taken_most P R p);
    always = λ P R p b h. (inspect_writing f).always_in P R p b (omega arith);
    not_always = (
      Z,
      replicate (suc k) 255,
      zero_page_lem.1,
      Bytes-alike (suc k) 255 (omega arith),
      length_alike (suc k) 255,
      too_long (replicate (suc k) 255) fewest (ones_taken (suc k) ∙ omega arith) (omega (arith, length_alike (suc k) 255)),
    );
    longest = λ P R p r. omega (arith, (inspect_writing f).never_in P R p r);
    longest_met = (
      Z,
      replicate m 0,
      zero_page_lem.1,
      record { of_bytes = Bytes-alike m 0 (omega arith); enough = omega (arith, zeros_taken m, length_alike m 0) },
      length_alike m 0,
    );
    greatest_met = (
      Z,
      replicate (suc m) 0,
      zero_page_lem.1,
      Bytes-alike (suc m) 0 (omega arith),
      length_alike (suc m) 0,
      too_long (replicate (suc m) 0) most (zeros_taken (suc m) ∙ omega arith) (omega (arith, length_alike (suc m) 0)),
    );
  }

pub inspect_figures : InspectFigures
inspect_figures = record { small = figures_of sound256 _ _ _ _ refl refl refl refl; large = figures_of sound512 _ _ _ _ refl refl refl refl }
