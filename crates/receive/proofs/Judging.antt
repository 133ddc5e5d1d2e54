-- Laws of a field's checks, by where it stands in its file.
-- Assumes nothing.
use mathlib.Core.Bool.{Bool, true, false, cond, ◌&&◌, ◌||◌}
use mathlib.Core.List.{List, [], ◌∷◌}
use mathlib.Core.Logic.Iff
use mathlib.Core.Logic.{◌↔◌, ◌⊎◌, inl, inr}
use mathlib.Core.Path.{◌≡◌, refl, sym, ap, ap₂, ◌∙◌}
use Prim.Native.Nat.{ℕ, ◌+◌, ◌-◌, ◌*◌, ◌≤◌, ◌<◌}
use native.Mathlib.Nat.{add-zero}
use native.Mathlib.Omega.{arith}
use mir.Facts.{and_yes}
use borrow.Author.Tests.{eq-eqb, ne_eqb, eqb-true, leb-true, le-leb, lt-leb}
use lib.Dec.{T, eqb, leb, ltb}
use lib.ListN.{length, drop, get_or, length-drop}
use lib.Seq.{get_or-drop}
use Rattle.cells.proofs.Tests.{is_true}
use Rattle.answer.specs.Answer.{AnswerOf, result, refusal, Check, refuse, answer}
use Rattle.answer.proofs.Chains.{same_refusal}
use Rattle.answer.proofs.Tells.{Tells, less, either, first_refused, passed, taken, nothing_left, flat3, flat4}
use Rattle.receive.specs.Field.{Sort, device, page, end, passed_over, unknown, sort_of, is_unknown, in_place, least, most, sort_in, length_in}
use Rattle.receive.specs.Read.{length_checks, field_checks, after_end, field_of, span_at, field_at, kind_at, and_then}
use Rattle.receive.specs.declared.fields.FieldKind.{FieldKind}

-- a refusal is not a result
pub not_a_result : {A : Type 0} {B : Type 0} (n i : ℕ) (t : A) → ◌≡◌ {A = AnswerOf A} (refusal n i) (result t) → B
not_a_result n i t e = let z : ◌≡◌ {A = ℕ} 0 1 = cc in absurd (omega arith)

-- a result that is gone on with is the result of what is made of it
pub then_result : {A B : Type 0} (cs : List Check) (x : A) (g : A → B) → and_then (answer cs x) (λ (y : A). result (g y)) ≡ answer cs (g x)
unfolding answer
then_result [] x g = refl
then_result (refuse true n i ∷ cs) x g = refl
then_result (refuse false n i ∷ cs) x g = then_result cs x g

-- so is the result of a call that was gone on with
pub made : {A B : Type 0} (cs : List Check) (x : A) (g : A → B) (v : A) → result v ≡ answer cs x → result (g v) ≡ answer cs (g x)
made {A} cs x g v e = ap (λ (y : AnswerOf A). and_then y (λ (w : A). result (g w))) e ∙ then_result cs x g

-- ---- the length and the contents

pub length_told : (file : List ℕ) (i : ℕ) → length_in (drop i file) ≡ 256 * get_or file (i + 1) 0 + get_or file (i + 2) 0
length_told file i = ap₂ (λ (a b : ℕ). 256 * a + b) (get_or-drop i file 1 0) (get_or-drop i file 2 0)

module _ {A : Type 0} (a z i : ℕ) (file : List ℕ) (x : A) where
  abbrev f : List ℕ
  f = drop i file

  abbrev wrong : Tells (ltb (length_in f) a || ltb z (length_in f)) ((length_in f < a) ⊎ (z < length_in f)) ((a ≤ length_in f) × (length_in f ≤ z))
  wrong = either (less (length_in f) a) (less z (length_in f))

  pub head_cut : length file - i < 3 → answer (length_checks a z f) x ≡ refusal 14 0
  unfolding length_checks
  head_cut h = first_refused (less (length f) 3) 14 0 _ x (omega (arith, length-drop i file))

  past_head : 3 ≤ length file - i → answer (length_checks a z f) x ≡ answer (refuse (ltb (length_in f) a || ltb z (length_in f)) 15 0 ∷ refuse (ltb (length f) (3 + length_in f)) 14 0 ∷ []) x
  unfolding length_checks
  past_head h = passed (less (length f) 3) 14 0 _ x (omega (arith, length-drop i file))

  pub too_short : 3 ≤ length file - i → length_in f < a → answer (length_checks a z f) x ≡ refusal 15 0
  too_short h l = past_head h ∙ first_refused wrong 15 0 _ x (inl l)

  pub too_long : 3 ≤ length file - i → z < length_in f → answer (length_checks a z f) x ≡ refusal 15 0
  too_long h l = past_head h ∙ first_refused wrong 15 0 _ x (inr l)

  past_length : 3 ≤ length file - i → a ≤ length_in f → length_in f ≤ z
      → answer (length_checks a z f) x ≡ answer (refuse (ltb (length f) (3 + length_in f)) 14 0 ∷ []) x
  past_length h l m = past_head h ∙ passed wrong 15 0 _ x (l, m)

  pub contents_cut : 3 ≤ length file - i → a ≤ length_in f → length_in f ≤ z → length file - i < 3 + length_in f → answer (length_checks a z f) x ≡ refusal 14 0
  contents_cut h l m k = past_length h l m ∙ first_refused (less (length f) (3 + length_in f)) 14 0 _ x (omega (arith, length-drop i file))

  pub spanned : 3 ≤ length file - i → a ≤ length_in f → length_in f ≤ z → 3 + length_in f ≤ length file - i → answer (length_checks a z f) x ≡ result x
  unfolding answer
  spanned h l m k = past_length h l m ∙ passed (less (length f) (3 + length_in f)) 14 0 [] x (omega (arith, length-drop i file))

-- ---- the tag

pub sort_02 : (t : ℕ) → t ≡ 0x02 → sort_of t ≡ device
unfolding sort_of
sort_02 t e = rw e refl

pub sort_01 : (t : ℕ) → t ≡ 0x01 → sort_of t ≡ page
unfolding sort_of
sort_01 t e = rw e refl

pub sort_7_f : (t : ℕ) → t ≡ 0x7F → sort_of t ≡ end
unfolding sort_of
sort_7_f t e = rw e refl

pub sort_passed : (t : ℕ) → 0x40 ≤ t → t < 0x70 → sort_of t ≡ passed_over
unfolding sort_of
sort_passed t a b = rw (ne_eqb t 2 (λ e. omega arith), ne_eqb t 1 (λ e. omega arith), ne_eqb t 0x7F (λ e. omega arith), le-leb 0x40 t a, le-leb t 0x6F (omega arith)) refl

pub sort_low : (t : ℕ) → ¬ (t ≡ 2) → ¬ (t ≡ 1) → ¬ (t ≡ 0x7F) → t < 0x40 → sort_of t ≡ unknown
unfolding sort_of
sort_low t a b c d = rw (ne_eqb t 2 a, ne_eqb t 1 b, ne_eqb t 0x7F c, lt-leb 0x40 t d) refl

pub sort_high : (t : ℕ) → ¬ (t ≡ 2) → ¬ (t ≡ 1) → ¬ (t ≡ 0x7F) → 0x6F < t → sort_of t ≡ unknown
unfolding sort_of
sort_high t a b c d = rw (ne_eqb t 2 a, ne_eqb t 1 b, ne_eqb t 0x7F c, le-leb 0x40 t (omega arith), lt-leb t 0x6F d) refl

-- the tags of a sort
abbrev pub Tagged : Sort → ℕ → Type 0
Tagged device t = t ≡ 0x02
Tagged page t = t ≡ 0x01
Tagged end t = t ≡ 0x7F
Tagged passed_over t = (0x40 ≤ t) × (t ≤ 0x6F)
Tagged unknown t = Unit {0}

pub tagged : (t : ℕ) → Tagged (sort_of t) t
unfolding sort_of
tagged t = go (eqb t 0x02) (eqb t 0x01) (eqb t 0x7F) (leb 0x40 t) (leb t 0x6F) refl refl refl refl refl
  where
    go : (a b c l m : Bool) → eqb t 0x02 ≡ a → eqb t 0x01 ≡ b → eqb t 0x7F ≡ c → leb 0x40 t ≡ l → leb t 0x6F ≡ m
        → Tagged (cond a device (cond b page (cond c end (cond (l && m) passed_over unknown)))) t
    go true b c l m ea eb ec el em = eqb-true t 0x02 ea
    go false true c l m ea eb ec el em = eqb-true t 0x01 eb
    go false false true l m ea eb ec el em = eqb-true t 0x7F ec
    go false false false true true ea eb ec el em = (leb-true 0x40 t el, leb-true t 0x6F em)
    go false false false true false ea eb ec el em = tt
    go false false false false m ea eb ec el em = tt

-- ---- tag and place

module _ {A : Type 0} (s i : ℕ) (file : List ℕ) (x : A) where
  abbrev g : List ℕ
  g = drop i file

  pub nothing_there : length file ≤ i → answer (field_checks s g) x ≡ refusal 14 0
  unfolding field_checks answer
  nothing_there h = let e : length g ≡ 0 = omega (arith, length-drop i file) in rw (eq-eqb (length g) 0 e) refl

  pub sort_at : (t : Sort) → sort_of (get_or file i 0) ≡ t → sort_in g ≡ t
  sort_at t e = ap sort_of (get_or-drop i file 0 0 ∙ ap (λ (k : ℕ). get_or file k 0) (add-zero i)) ∙ e

  pub other_tag : i < length file → sort_of (get_or file i 0) ≡ unknown → answer (field_checks s g) x ≡ refusal 15 0
  unfolding field_checks answer
  other_tag h e =
      let n : ¬ (length g ≡ 0) = λ q. omega (arith, length-drop i file) in
      rw (ne_eqb (length g) 0 n, sort_at unknown e) refl

  pub no_place : (t : Sort) → i < length file → sort_of (get_or file i 0) ≡ t → is_unknown t ≡ false → in_place t s ≡ false → answer (field_checks s g) x ≡ refusal 15 0
  unfolding field_checks answer
  no_place t h e u p =
      let n : ¬ (length g ≡ 0) = λ q. omega (arith, length-drop i file) in
      rw (ne_eqb (length g) 0 n, sort_at t e, u, p) refl

  pub placed : (t : Sort) → i < length file → sort_of (get_or file i 0) ≡ t → is_unknown t ≡ false → in_place t s ≡ true
      → answer (field_checks s g) x ≡ answer (length_checks (least t) (most t) g) x
  unfolding field_checks answer
  placed t h e u p =
      let n : ¬ (length g ≡ 0) = λ q. omega (arith, length-drop i file) in
      rw (ne_eqb (length g) 0 n, sort_at t e, u, p) refl

-- the whole field: its answer where the sort is known and in place, by what its length and contents give
module _ (file : List ℕ) (i s : ℕ) where
  pub field_there : (t : Sort) (a z : ℕ) (k : FieldKind) → i < length file → sort_of (get_or file i 0) ≡ t → is_unknown t ≡ false → in_place t s ≡ true
      → least t ≡ a → most t ≡ z → kind_at t file i ≡ k
      → field_at file i s ≡ answer (length_checks a z (drop i file)) (field_of (i + 3 + length_in (drop i file)) k)
  unfolding field_at
  field_there t a z k h e u p ea ez ek =
      placed s i file _ t h e u p
      ∙ ap₂ (λ (x y : ℕ). answer (length_checks x y (drop i file)) (field_of (i + 3 + length_in (drop i file)) (kind_at (sort_in (drop i file)) file i))) ea ez
      ∙ ap (λ (m : FieldKind). answer (length_checks a z (drop i file)) (field_of (i + 3 + length_in (drop i file)) m)) (ap (λ (u : Sort). kind_at u file i) (sort_at s i file file t e) ∙ ek)

  -- by where it ends
  pub field_spanned : (t : Sort) (a z : ℕ) (k : FieldKind) (n : ℕ) → i < length file → sort_of (get_or file i 0) ≡ t → is_unknown t ≡ false
      → in_place t s ≡ true → least t ≡ a → most t ≡ z → kind_at t file i ≡ k → result n ≡ span_at a z file i → result (field_of n k) ≡ field_at file i s
  field_spanned t a z k n h e u p ea ez ek w =
      made (length_checks a z (drop i file)) (i + 3 + length_in (drop i file)) (λ (m : ℕ). field_of m k) n w ∙ sym (field_there t a z k h e u p ea ez ek)

  -- or by the refusal of its length or its contents
  pub field_unspanned : (t : Sort) (a z : ℕ) (k : FieldKind) (m j : ℕ) → i < length file → sort_of (get_or file i 0) ≡ t → is_unknown t ≡ false
      → in_place t s ≡ true → least t ≡ a → most t ≡ z → kind_at t file i ≡ k → refusal m j ≡ span_at a z file i → refusal m j ≡ field_at file i s
  field_unspanned t a z k m j h e u p ea ez ek w =
      sym (field_there t a z k h e u p ea ez ek ∙ same_refusal (length_checks a z (drop i file)) (i + 3 + length_in (drop i file)) _ m j (sym w))

-- ---- what an accepted length tells

pub length_taken : {A : Type 0} (a z : ℕ) (f : List ℕ) (x v : A) → (answer (length_checks a z f) x ≡ result v)
    ↔ ((3 ≤ length f) × ((a ≤ length_in f) × (length_in f ≤ z)) × (3 + length_in f ≤ length f) × (v ≡ x))
unfolding length_checks
length_taken a z f x v =
    Iff.trans
    (taken (less (length f) 3) 14 0 _ x v
    (Iff.trans (taken (either (less (length_in f) a) (less z (length_in f))) 15 0 _ x v (taken (less (length f) (3 + length_in f)) 14 0 [] x v (nothing_left x v))) flat3))
    flat4

-- the contents of a device number are there
pub four_there : (i : ℕ) (file : List ℕ) (n : ℕ) → result n ≡ span_at 4 4 file i → i + 3 + 4 ≤ length file
four_there i file n e = let h = (length_taken 4 4 (drop i file) _ n).0 (sym e) in omega (arith, length-drop i file, h)

-- ---- places

pub page_place : (s : ℕ) → T (in_place page s) → (1 ≤ s) × (s ≤ 64)
unfolding in_place
page_place s t =
    let p = and_yes (leb 1 s) (leb s 64) t in (leb-true 1 s (is_true (leb 1 s) p.0), leb-true s 64 (is_true (leb s 64) p.1))

pub page_late : (s : ℕ) → 64 < s → in_place page s ≡ false
unfolding in_place
page_late s h = rw (le-leb 1 s (omega arith), lt-leb s 64 h) refl

pub page_in : (s : ℕ) → ¬ (s ≡ 0) → s ≤ 64 → in_place page s ≡ true
unfolding in_place
page_in s n h = rw (le-leb 1 s (omega arith), le-leb s 64 h) refl

pub end_in : (s : ℕ) → ¬ (s ≡ 0) → in_place end s ≡ true
unfolding in_place
end_in s n = le-leb 1 s (omega arith)

-- ---- the end

pub bytes_after : {A : Type 0} (r : List ℕ) (x : A) → 0 < length r → answer (after_end r) x ≡ refusal 16 0
unfolding after_end answer
bytes_after r x h = rw (ne_eqb (length r) 0 (λ e. omega arith)) refl

pub end_reached : {A : Type 0} (r : List ℕ) (x : A) → length r ≡ 0 → answer (after_end r) x ≡ result x
unfolding after_end answer
end_reached r x h = rw (eq-eqb (length r) 0 h) refl
