-- A page in halves of 44 words, which take 253 bytes: the second half of the larger page lies as the first does, from byte 253 on, and the
-- smaller page has none. Assumes nothing.
use mathlib.Core.Bool.{Bool, true, false, cond}
use mathlib.Core.List.{List, ◌++◌}
use mathlib.Core.Logic.{◌⊎◌, inl, inr}
use mathlib.Core.Path.{◌≡◌, refl, sym, ap, ◌∙◌, subst}
use Prim.Native.Nat.{ℕ, ◌+◌, ◌-◌, ◌*◌, ◌≤◌}
use native.Mathlib.Omega.{arith}
use lib.Dec.{T, eqb}
use lib.ListN.{length, take, drop, length-drop}
use lib.Seq.{take_all}
use Rattle.window.specs.Words.{start, page_words, Words}
use Rattle.window.proofs.Words.{Words-page_words, page_words_append, word_at_after}
use Rattle.rows.specs.declared.shape.Shape.{Shape}
use Rattle.rows.specs.Page.{page256, page512, shape_for, lowest}
use Rattle.rows.proofs.Scanning.{Passed, scan_passed}
use Rattle.rows.proofs.Shapes.{Sound, sound256, sound512, words_inside}

-- one half or two
pub record Halved (s : Shape) : Type 0 where
  pub sound : Sound s
  pub one_or_two : ((s.words ≡ 44) × (s.size ≡ 256)) ⊎ ((s.words ≡ 88) × (s.size ≡ 512))
  pub least : 44 ≤ s.words
  pub sizes : 11 * s.size ≡ 64 * s.words

pub halved_found : (s : Shape) (k : ℕ) → s ≡ shape_for k → Halved s
unfolding shape_for
halved_found s k e = subst Halved (sym e) (go (eqb k 512))
  where
    go : (b : Bool) → Halved (cond b page512 page256)
    go true = record { sound = sound512; one_or_two = inr (refl, refl); least = omega arith; sizes = refl }
    go false = record { sound = sound256; one_or_two = inl (refl, refl); least = omega arith; sizes = refl }

-- the bounds of a found shape
pub found_bounds : (s : Shape) (k : ℕ) → s ≡ shape_for k → (44 ≤ s.words) × (s.words ≤ 88) × (256 ≤ s.size)
found_bounds s k e = let h = halved_found s k e in (h.least, h.sound.few, omega (arith, h))

-- the page from byte 253 on, as a part of it is lent
abbrev pub lent : List ℕ → List ℕ
lent P = take (length P - 253) (drop 253 P)

-- the words of the second half
abbrev pub back_words : Shape → List ℕ → List (List Bool)
back_words s P = page_words (drop 253 P) (s.words - 44)

-- of a page of its size
module _ {s : Shape} (h : Halved s) (P : List ℕ) (l : length P ≡ s.size) where
  pub whole : 256 ≤ length P
  whole = omega (arith, h)

  pub lent_is : lent P ≡ drop 253 P
  lent_is = take_all (length P - 253) (drop 253 P) (omega (arith, length-drop 253 P))

  pub lent_length : start (s.words - 44) ≤ 8 * length (lent P)
  lent_length = omega (arith, ap length lent_is, length-drop 253 P, words_inside h.sound, h.least)

  pub Words-front : Words (page_words P 44)
  Words-front = Words-page_words P 44 (omega (arith, whole))

  pub Words-back : Words (back_words s P)
  Words-back = Words-page_words (drop 253 P) (s.words - 44) (omega (arith, ap length lent_is, lent_length))

module _ (s : Shape) (h : Halved s) (P : List ℕ) where
  abbrev after : ℕ
  after = s.words - 44

  -- its words are those of the halves
  pub words_split : page_words P s.words ≡ page_words P 44 ++ back_words s P
  words_split = let e : s.words ≡ 44 + after = omega (arith, h.least) in ap (page_words P) e ∙ page_words_append P 44 253 refl after

  -- a test that all pass
  module _ (test : List Bool → Bool) (p : Passed test P s.words) where
    pub front_passed : lowest test (page_words P 44) ≡ 44
    front_passed = scan_passed test P 44 (λ i k. p i (omega (arith, h.least)))

    pub back_passed : lowest test (page_words (drop 253 P) after) ≡ after
    back_passed =
        scan_passed test (drop 253 P) after
        (λ i k. subst (λ (w : List Bool). T (test w)) (sym (word_at_after P 44 253 refl i)) (p (44 + i) (omega (arith, h.least))))
