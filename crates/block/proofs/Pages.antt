-- Laws of a page of a block that is replaced, and of the others.
-- Assumes nothing.
use mathlib.Core.Bool.{Bool, true, false}
use mathlib.Core.List.{List, ◌++◌, append_assoc}
use mathlib.Core.Logic.{◌⊎◌, inl, inr, ⊎_elim}
use mathlib.Core.Path.{◌≡◌, refl, sym, ap, ap₂, ◌∙◌}
use Prim.Native.Nat.{ℕ, ◌+◌, ◌-◌, ◌*◌, ◌≤◌, ◌<◌}
use native.Mathlib.Omega.{arith}
use borrow.Author.Tests.{ltb-true, ltb-false}
use borrow.Rule.Slice.PartMut.{put_mid}
use lib.Dec.{ltb}
use lib.ListN.{length, take, drop, length-append, length-drop}
use lib.Seq.{drop-drop, take_at, drop_at, take-take, take-append-le, drop-append-le, length-take-le}
use Rattle.answer.specs.Answer.{Answer, result, refusal, after}
use Rattle.window.proofs.Words.{drop_take, length_put_words}
use Rattle.rows.specs.Page.{shape_of, filled_page}
use Rattle.rows.specs.Code.{fill_code, written_of}
use Rattle.filled.specs.Answer.{fill_page_answer, fill_page_leaves}
use Rattle.second.specs.Answer.{write_second_answer, write_second_leaves}
use Rattle.block.specs.Block.{page_at, put_page}
use Rattle.block.specs.Answer.{both_steps}

pub length_page_at : (block : List ℕ) (i : ℕ) → 256 * i + 256 ≤ length block → length (page_at block i) ≡ 256
length_page_at block i h = length-take-le 256 (drop (256 * i) block) (omega (arith, length-drop (256 * i) block))

-- a part of 256 bytes that comes back with other contents is a page replaced
put_part : (block new : List ℕ) (i : ℕ) → put_mid (256 * i) 256 block new ≡ put_page block i new
unfolding put_page
put_part block new i = ap (λ (l : List ℕ). take (256 * i) block ++ (new ++ l)) (drop-drop 256 (256 * i) block)

-- ... as one that is filled and written does; the part is one of n bytes
pub both_written : (block F W second : List ℕ) (i n : ℕ) → n ≡ 256 → F ≡ fill_page_leaves (take n (drop (256 * i) block)) → W ≡ write_second_leaves F second
    → put_mid (256 * i) n block W ≡ put_page block i (both_steps (page_at block i) second)
both_written block F W second i n en ef ew =
    ap₂ (λ (k : ℕ) (w : List ℕ). put_mid (256 * i) k block w) en
    (ew ∙ ap (λ (f : List ℕ). write_second_leaves f second) (ef ∙ ap (λ (k : ℕ). fill_page_leaves (take k (drop (256 * i) block))) en))
    ∙ put_part block (both_steps (page_at block i) second) i

-- ---- a page replaced

module _ (block : List ℕ) (i : ℕ) (new : List ℕ) (b : i < 16) (h : length block ≡ 4096) (l : length new ≡ 256) where
  abbrev front : List ℕ
  front = take (256 * i) block

  abbrev rest : List ℕ
  rest = drop (256 * i + 256) block

  length_front : length front ≡ 256 * i
  length_front = length-take-le (256 * i) block (omega arith)

  pub own_page : page_at (put_page block i new) i ≡ new
  unfolding put_page
  own_page = ap (take 256) (drop_at front (new ++ rest) (256 * i) length_front) ∙ take_at new rest 256 l

  pub length_put_page : length (put_page block i new) ≡ 4096
  unfolding put_page
  length_put_page =
      length-append front (new ++ rest) ∙ omega (arith, length_front, length-append new rest, l, length-drop (256 * i + 256) block)

  before_page : (j : ℕ) → j < i → page_at (put_page block i new) j ≡ page_at block j
  unfolding put_page
  before_page j q =
      let k = 256 * i - 256 * j in
      let e : 256 * j + k ≡ 256 * i = omega arith in
      let c : drop (256 * j) front ≡ take k (drop (256 * j) block) = ap (λ (n : ℕ). drop (256 * j) (take n block)) (sym e) ∙ drop_take (256 * j) k block in
      ap (take 256) (drop-append-le (256 * j) front (new ++ rest) (omega (arith, length_front)))
      ∙ take-append-le 256 (drop (256 * j) front) (new ++ rest) (omega (arith, length-drop (256 * j) front, length_front))
      ∙ ap (take 256) c
      ∙ take-take 256 k (drop (256 * j) block) (omega arith)

  after_page : (j : ℕ) → i < j → page_at (put_page block i new) j ≡ page_at block j
  unfolding put_page
  after_page j q =
      let k = 256 * j - (256 * i + 256) in
      let e : 256 * i + 256 + k ≡ 256 * j = omega arith in
      let a : put_page block i new ≡ (front ++ new) ++ rest = sym (append_assoc front new rest) in
      let lf : length (front ++ new) ≡ 256 * i + 256 = length-append front new ∙ omega (arith, length_front) in
      ap (λ (n : ℕ). take 256 (drop n (put_page block i new))) (sym e)
      ∙ ap (take 256) (
      sym (drop-drop k (256 * i + 256) (put_page block i new))
      ∙ ap (λ (x : List ℕ). drop k (drop (256 * i + 256) x)) a
      ∙ ap (drop k) (drop_at (front ++ new) rest (256 * i + 256) lf)
      ∙ drop-drop k (256 * i + 256) block
      ∙ ap (λ (n : ℕ). drop n block) e
      )

  pub other_page : (j : ℕ) → ¬ (j ≡ i) → page_at (put_page block i new) j ≡ page_at block j
  other_page j n = ⊎_elim (λ q. before_page j q) (λ q. after_page j q) (apart (ltb j i) refl)
    where
      apart : (t : Bool) → ltb j i ≡ t → (j < i) ⊎ (i < j)
      apart true e = inl (ltb-true j i e)
      apart false e = let w = ltb-false j i e in inr (omega (arith, n))

-- ---- a page that is filled and written has its length

after_length : (a : Answer) (old new : List ℕ) → length new ≡ length old → length (after a old new) ≡ length old
after_length (result x) old new e = e
after_length (refusal n i) old new e = refl

length_filled : (P : List ℕ) → 3 ≤ length P → length (fill_page_leaves P) ≡ length P
unfolding filled_page
length_filled P h = after_length (fill_page_answer P) P (filled_page (shape_of P) P) (length_put_words _ _ ∙ omega (arith, length-drop 1 P))

length_second : (P R : List ℕ) → 3 ≤ length P → length (write_second_leaves P R) ≡ length P
unfolding written_of
length_second P R h = after_length (write_second_answer P R) P (written_of fill_code (shape_of P) P R) (length_put_words _ _ ∙ omega (arith, length-drop 3 P))

pub length_both : (P R : List ℕ) → length P ≡ 256 → length (both_steps P R) ≡ 256
length_both P R h =
    let f : length (fill_page_leaves P) ≡ 256 = length_filled P (omega arith) ∙ h in length_second (fill_page_leaves P) R (omega arith) ∙ f
