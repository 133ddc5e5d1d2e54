-- Blank pages: the bytes of 0 and no others.
-- Assumes nothing.
use mathlib.Core.Bool.{true, not}
use mathlib.Core.List.{List, [], ◌∷◌}
use mathlib.Core.Path.{◌≡◌, refl, sym, ap, ap₂, ◌∙◌, subst}
use Prim.Native.Nat.{ℕ, zero, suc}
use borrow.Author.Tests.{not-true, not-false}
use lib.Dec.{T, eqb, eqb→eq}
use lib.ListN.{length, length-replicate}
use mir.Facts.{and_yes}
use Rattle.cells.specs.Bytes.{Bytes, zeros}
use Rattle.cells.proofs.Bytes.{Bytes-zeros}
use Rattle.cells.proofs.Tests.{holds}
use Rattle.answer.proofs.Tells.{Tells}
use Rattle.rows.specs.Page.{blank_of}

pub zeros_blank : (n : ℕ) → zeros (blank_of n) ≡ true
unfolding blank_of zeros
zeros_blank zero = refl
zeros_blank (suc n) = zeros_blank n

-- only a blank page has bytes of 0 only
pub blank_zeros : (P : List ℕ) → T (zeros P) → P ≡ blank_of (length P)
unfolding blank_of zeros
blank_zeros [] h = refl
blank_zeros (b ∷ P) h =
    let p = and_yes (eqb b 0) (zeros P) h in
    ap₂ (λ (x : ℕ) (l : List ℕ). x ∷ l) (eqb→eq b 0 p.0) (blank_zeros P p.1)

pub Bytes-blank : (n : ℕ) → Bytes (blank_of n)
unfolding blank_of
Bytes-blank n = Bytes-zeros n

pub length_blank : (n : ℕ) → length (blank_of n) ≡ n
unfolding blank_of
length_blank n = length-replicate {A = ℕ} n 0

pub not_blank : (P : List ℕ) → Tells (not (zeros P)) (¬ (P ≡ blank_of (length P))) (P ≡ blank_of (length P))
not_blank P = record {
  if_holds = λ e h. subst T (sym (ap zeros h ∙ zeros_blank (length P)) ∙ not-true (zeros P) e) tt;
  if_not = λ e. blank_zeros P (holds (zeros P) (not-false (zeros P) e));
  apart = λ n h. n h;
}
