-- The bytes of a page that are not in its words: what refusal 6 says of them, and the state and a record's length put.
-- Assumes nothing.
use mathlib.Core.Bool.{true, false}
use mathlib.Core.List.{List, ◌∷◌}
use mathlib.Core.Logic.{◌⊎◌, inl, inr, ⊎_elim}
use mathlib.Core.Path.{◌≡◌, refl, sym, ap, ◌∙◌}
use Prim.Native.Nat.{ℕ, zero, suc, ◌+◌, ◌*◌, ◌≤◌, ◌<◌}
use native.Mathlib.Numerals.{add-one}
use native.Mathlib.Omega.{arith}
use borrow.Author.Tests.{eq-eqb, ne_eqb}
use lib.Dec.{T}
use lib.ListN.{length, drop, get_or, set, drop_of_length-le, length-drop}
use lib.Seq.{set_split, drop-cons, drop-drop}
use Rattle.cells.specs.Bytes.{zeros}
use Rattle.cells.proofs.Bytes.{drop_bits}
use Rattle.answer.proofs.Tells.{Tells, less, opposite, either}
use Rattle.window.specs.Words.{pieces, page_words}
use Rattle.rows.specs.Page.{byte1, byte2, record_length, tail, bad_header, with_header}

module _ (n : ℕ) (P : List ℕ) where
  -- of a page with a second record of at most so many bytes
  pub header_tells : (most : ℕ) → Tells (bad_header most n P) ((most < record_length P) ⊎ (zeros (tail n P) ≡ false))
      ((record_length P ≤ most) × T (zeros (tail n P)))
  unfolding bad_header
  header_tells most = either (less most (record_length P)) (opposite (zeros (tail n P)))

  -- ... and of one without: a length of 0 is two bytes of 0
  pub empty_tells : Tells (bad_header 0 n P) (¬ (byte1 P ≡ 0) ⊎ (¬ (byte2 P ≡ 0) ⊎ (zeros (tail n P) ≡ false)))
      ((byte1 P ≡ 0) × ((byte2 P ≡ 0) × T (zeros (tail n P))))
  empty_tells = record {
    if_holds = λ e. ⊎_elim (λ h. some (byte1 P) h) (λ t. inr (inr t)) ((header_tells 0).if_holds e);
    if_not = λ e. let h = (header_tells 0).if_not e in (omega (arith, h.0), (omega (arith, h.0), h.1));
    apart = λ h k. ⊎_elim (λ x. x k.0) (λ r. ⊎_elim (λ x. x k.1.0) (λ t. (opposite (zeros (tail n P))).apart t k.1.1) r) h;
  }
    where
      some : (b : ℕ) → 0 < b + 256 * byte2 P → ¬ (b ≡ 0) ⊎ (¬ (byte2 P ≡ 0) ⊎ (zeros (tail n P) ≡ false))
      some zero h = inr (inl (λ e. omega arith))
      some (suc b) h = inl (λ e. omega arith)

-- ---- the state and a record's length put

module _ (P : List ℕ) (h : 3 ≤ length P) where
  pub header_set : (a b c : ℕ) → set (set (set P 0 a) 1 b) 2 c ≡ a ∷ b ∷ c ∷ drop 3 P
  header_set a b c =
      ap (λ (p : List ℕ). set (set p 1 b) 2 c) (set_split P 0 a (omega arith))
      ∙ ap (λ (p : List ℕ). set (a ∷ p) 2 c) (set_split (drop 1 P) 0 b (omega (arith, length-drop 1 P)) ∙ ap (λ (p : List ℕ). b ∷ p) (drop-drop 1 1 P))
      ∙ ap (λ (p : List ℕ). a ∷ b ∷ p) (set_split (drop 2 P) 0 c (omega (arith, length-drop 2 P)) ∙ ap (λ (p : List ℕ). c ∷ p) (drop-drop 1 2 P))

  -- they leave the page's length
  pub header_length : (k n : ℕ) → length (with_header k n P) ≡ length P
  header_length k n = omega (arith, length-drop 3 P)

-- ... and its words
pub header_words : (P : List ℕ) (k n m : ℕ) → page_words (with_header k n P) m ≡ page_words P m
unfolding page_words
header_words P k n m = ap (pieces m) (drop_bits 3 (with_header k n P) ∙ sym (drop_bits 3 P))

-- bytes looked at one by one from byte i on
module _ (l : List ℕ) (i : ℕ) where
  pub zeros_found : i < length l → ¬ (get_or l i 0 ≡ 0) → zeros (drop i l) ≡ false
  unfolding zeros
  zeros_found h n = ap zeros (drop-cons l i 0 h) ∙ rw (ne_eqb (get_or l i 0) 0 n) refl

  pub zeros_passed : i < length l → get_or l i 0 ≡ 0 → zeros (drop (i + 1) l) ≡ zeros (drop i l)
  unfolding zeros
  zeros_passed h e = ap (λ (j : ℕ). zeros (drop j l)) (add-one i) ∙ sym (ap zeros (drop-cons l i 0 h) ∙ rw (eq-eqb (get_or l i 0) 0 e) refl)

  pub zeros_end : length l ≤ i → zeros (drop i l) ≡ true
  unfolding zeros
  zeros_end h = ap zeros (drop_of_length-le l h)
