-- Laws of the fields one after another: where the reader stands, and what a field that was read makes of that.
-- Assumes nothing.
use mathlib.Core.Bool.{false}
use mathlib.Core.List.{List, [], ◌++◌}
use mathlib.Core.Path.{◌≡◌, refl, sym, ap, ap₂, ◌∙◌, subst}
use Prim.Native.Nat.{ℕ, zero, suc, ◌+◌, ◌-◌, ◌*◌, ◌/◌, ◌≤◌, ◌<◌}
use native.Mathlib.Numerals.{add-one}
use native.Mathlib.Omega.{arith}
use borrow.Author.Tests.{leb-true, eqb-true, ne_eqb}
use lib.Dec.{T, eqb, leb}
use lib.ListN.{length, take, drop, length-drop, length-append}
use lib.Seq.{drop-drop, length-take-le}
use Rattle.cells.specs.Cells.{number}
use Rattle.cells.specs.Bytes.{bits}
use Rattle.cells.proofs.Tests.{is_true}
use Rattle.answer.specs.Answer.{AnswerOf, result, refusal, answer}
use Rattle.answer.proofs.Chains.{same_refusal}
use Rattle.answer.proofs.Tells.{itself, opposite, taken}
use Rattle.receive.specs.Field.{Sort, device, page, end, passed_over, unknown, is_unknown, in_place, least, most, sort_in, length_in, contents_in, behind}
use Rattle.receive.specs.Read.{length_checks, field_checks, field_of, kind_at, field_at, and_then, after_end, next_read, fields_read, fields_told, Told, counted}
use Rattle.receive.specs.declared.fields.Field.{Field}
use Rattle.receive.specs.declared.fields.FieldKind.{FieldKind}
use Rattle.receive.specs.declared.fields.FieldKind.TheVariants.{Device, Page, End, Skipped}
use Rattle.receive.proofs.Judging.{length_taken, nothing_there, then_result, page_place}

-- ---- a field that is whole

pub record Sound (s : ℕ) (f : List ℕ) : Type 0 where
  pub known : is_unknown (sort_in f) ≡ false
  pub place : T (in_place (sort_in f) s)
  pub from : least (sort_in f) ≤ length_in f
  pub to : length_in f ≤ most (sort_in f)
  pub there : 3 + length_in f ≤ length f

module _ {A : Type 0} (s : ℕ) (f : List ℕ) (x : A) where
  abbrev t : Sort
  t = sort_in f

  pub field_sound : (v : A) → answer (field_checks s f) x ≡ result v → Sound s f × (v ≡ x)
  unfolding field_checks
  field_sound v e =
      let h =
      (taken (itself (eqb (length f) 0)) 14 0 _ x v
      (taken (itself (is_unknown t)) 15 0 _ x v (taken (opposite (in_place t s)) 15 0 (length_checks (least t) (most t) f) x v (length_taken (least t) (most t) f x v)))).0
      e in
      let w = h.1.1.1 in
      (record { known = h.1.0; place = h.1.1.0; from = w.1.0; to = w.1.1; there = w.2 }, w.3)

  pub sound_field : Sound s f → answer (field_checks s f) x ≡ result x
  unfolding field_checks
  sound_field h =
      (taken (itself (eqb (length f) 0)) 14 0 _ x x
      (taken (itself (is_unknown t)) 15 0 _ x x (taken (opposite (in_place t s)) 15 0 (length_checks (least t) (most t) f) x x (length_taken (least t) (most t) f x x)))).1
      (ne_eqb (length f) 0 (λ q. omega (arith, h.there)), (h.known, (h.place, (omega (arith, h.there), (h.from, h.to), h.there, refl))))

-- what the reader makes of a field's answer
abbrev pub onward : ℕ → ℕ → ℕ → List ℕ → List ℕ → AnswerOf (List ℕ) → AnswerOf Told
onward m s d P f a = and_then a (λ (c : List ℕ). next_read (fields_read m) (sort_in f) s d P c (behind f))

-- a field that was read is whole, and it is the one at its offset
pub read_whole : (file : List ℕ) (i s : ℕ) (f : Field) → field_at file i s ≡ result f
    → Sound s (drop i file) × (f ≡ field_of (i + 3 + length_in (drop i file)) (kind_at (sort_in (drop i file)) file i))
unfolding field_at
read_whole file i s f e = field_sound s (drop i file) (field_of (i + 3 + length_in (drop i file)) (kind_at (sort_in (drop i file)) file i)) f e

-- the sort of a kind
abbrev pub kind_sort : FieldKind → Sort
kind_sort (Device d) = device
kind_sort (Page i) = page
kind_sort End = end
kind_sort Skipped = passed_over

pub sort_of_kind : (t : Sort) (file : List ℕ) (i : ℕ) → is_unknown t ≡ false → kind_sort (kind_at t file i) ≡ t
unfolding kind_at
sort_of_kind device file i e = refl
sort_of_kind page file i e = refl
sort_of_kind end file i e = refl
sort_of_kind passed_over file i e = refl
sort_of_kind unknown file i e = absurd (subst T e tt)

-- refusals are equal by their numbers, whatever the result would be
same_numbers : {A B : Type 0} {a b c d : ℕ} → ◌≡◌ {A = AnswerOf A} (refusal a b) (refusal c d) → ◌≡◌ {A = AnswerOf B} (refusal a b) (refusal c d)
same_numbers {a = a} {b = b} {c = c} {d = d} e = let p : a ≡ c = cc in let q : b ≡ d = cc in rw (p, q) refl

-- ---- where the reader stands

-- Before the field at offset i of the file, after s fields that were not passed over, with the device number d and the pages P, the reader is on
-- the way to what the file tells.
pub record Stands (file : List ℕ) (i s d : ℕ) (P : List ℕ) : Type 0 where
  pub turns : ℕ
  pub left : fields_read turns s d P (drop i file) ≡ fields_told file
  pub enough : length file ≤ i + turns
  pub within : i ≤ length file
  pub few : s ≤ 65
  pub full : length P ≡ 256 * (s - 1)

pub stands_first : (file : List ℕ) → 2 ≤ length file → Stands file 2 0 0 []
unfolding fields_told
stands_first file h = record { turns = length file; left = refl; enough = omega arith; within = h; few = omega arith; full = refl }

module _ (file : List ℕ) (i s d : ℕ) (P : List ℕ) (w : Stands file i s d P) where
  abbrev g : List ℕ
  g = drop i file

  -- a refusal of the field is the file's
  pub stands_refused : (a b : ℕ) → field_at file i s ≡ refusal a b → refusal a b ≡ fields_told file
  unfolding fields_read field_at
  stands_refused a b e = go w.turns w.left w.enough
    where
      go : (m : ℕ) → fields_read m s d P g ≡ fields_told file → length file ≤ i + m → refusal a b ≡ fields_told file
      go zero l q =
          same_numbers {A = Field} {B = Told} (sym e ∙ nothing_there s i file _ (omega arith)) ∙ l
      go (suc m) l q =
          sym (ap (onward m s d P g) (same_refusal (field_checks s g) _ (contents_in g) a b e))
          ∙ l

  -- a field that was read
  module _ (n : ℕ) (k : FieldKind) (e : field_at file i s ≡ result (field_of n k)) where
    sound : Sound s g × (field_of n k ≡ field_of (i + 3 + length_in g) (kind_at (sort_in g) file i))
    sound = read_whole file i s (field_of n k) e

    abbrev ok : Sound s g
    ok = sound.0

    pub next_is : n ≡ i + 3 + length_in g
    next_is = ap (λ (f : Field). f.next) sound.1

    kind_is : k ≡ kind_at (sort_in g) file i
    kind_is = ap (λ (f : Field). f.kind) sound.1

    sort_is : sort_in g ≡ kind_sort k
    sort_is = sym (ap kind_sort kind_is ∙ sort_of_kind (sort_in g) file i ok.known)

    pub further : (i < n) × (n ≤ length file)
    further = (omega (arith, next_is), omega (arith, next_is, ok.there, length-drop i file))

    rest_is : behind g ≡ drop n file
    rest_is =
        let q : i + (3 + length_in g) ≡ n = omega (arith, next_is) in
        drop-drop (3 + length_in g) i file ∙ ap (λ (j : ℕ). drop j file) q

    -- what the file tells, by what follows the field
    record Went : Type 0 where
      left_turns : ℕ
      gone : next_read (fields_read left_turns) (sort_in g) s d P (contents_in g) (drop n file) ≡ fields_told file
      still : length file ≤ n + left_turns

    went : Went
    unfolding fields_read
    went = go w.turns w.left w.enough
      where
        go : (m : ℕ) → fields_read m s d P g ≡ fields_told file → length file ≤ i + m → Went
        go zero l q = absurd (omega (arith, further.0, further.1))
        go (suc m) l q = record {
          left_turns = m;
          gone =
              ap (next_read (fields_read m) (sort_in g) s d P (contents_in g)) (sym rest_is)
              ∙ sym (ap (onward m s d P g) (sound_field s g (contents_in g) ok))
              ∙ l;
          still = omega (arith, further.0);
        }

    pub after_device : (x : ℕ) → k ≡ Device x → Stands file n (s + 1) x P × (s ≡ 0)
    unfolding next_read in_place least most kind_at
    after_device x q =
        let t : sort_in g ≡ device = sort_is ∙ ap kind_sort q in
        let z : s ≡ 0 = eqb-true s 0 (is_true (eqb s 0) (subst (λ (u : Sort). T (in_place u s)) t ok.place)) in
        let lo : 4 ≤ length_in g = subst (λ (u : Sort). least u ≤ length_in g) t ok.from in
        let hi : length_in g ≤ 4 = subst (λ (u : Sort). length_in g ≤ most u) t ok.to in
        let four : length_in g ≡ 4 = omega arith in
        let kd : k ≡ Device (number (bits (take 4 (drop (i + 3) file)))) = kind_is ∙ ap (λ (u : Sort). kind_at u file i) t in
        let v : x ≡ number (bits (take 4 (drop (i + 3) file))) = cc in
        let c : contents_in g ≡ take 4 (drop (i + 3) file) = ap₂ (λ (j : ℕ) (l : List ℕ). take j l) four (drop-drop 3 i file) in (
          record {
            turns = went.left_turns;
            left =
                ap₂ (λ (a b : ℕ). fields_read went.left_turns a b P (drop n file)) (add-one s) (v ∙ ap (λ (l : List ℕ). number (bits l)) (sym c))
                ∙ ap (λ (u : Sort). next_read (fields_read went.left_turns) u s d P (contents_in g) (drop n file)) (sym t)
                ∙ went.gone;
            enough = went.still;
            within = further.1;
            few = omega arith;
            full = omega (arith, w.full);
          },
          z,
        )

    pub record Paged (from : ℕ) : Type 0 where
      pub after : Stands file n (s + 1) d (P ++ take 256 (drop from file))
      pub one : 1 ≤ s
      pub room : from + 256 ≤ length file
      pub size : length_in g ≡ 256

    pub after_page : (from : ℕ) → k ≡ Page from → Paged from
    unfolding next_read in_place least most kind_at
    after_page from q =
        let t : sort_in g ≡ page = sort_is ∙ ap kind_sort q in
        let pl = page_place s (subst (λ (u : Sort). T (in_place u s)) t ok.place) in
        let one : 1 ≤ s = pl.0 in
        let many : s ≤ 64 = pl.1 in
        let lo : 256 ≤ length_in g = subst (λ (u : Sort). least u ≤ length_in g) t ok.from in
        let hi : length_in g ≤ 256 = subst (λ (u : Sort). length_in g ≤ most u) t ok.to in
        let size : length_in g ≡ 256 = omega arith in
        let kd : k ≡ Page (i + 3) = kind_is ∙ ap (λ (u : Sort). kind_at u file i) t in
        let v : from ≡ i + 3 = cc in
        let c : contents_in g ≡ take 256 (drop from file) = ap₂ (λ (j : ℕ) (l : List ℕ). take j l) size (drop-drop 3 i file ∙ ap (λ (j : ℕ). drop j file) (sym v)) in
        let room : from + 256 ≤ length file = omega (arith, ok.there, length-drop i file) in
        let lp : length (take 256 (drop from file)) ≡ 256 = length-take-le 256 (drop from file) (omega (arith, length-drop from file)) in
        record {
          after = record {
            turns = went.left_turns;
            left =
                ap₂ (λ (a : ℕ) (l : List ℕ). fields_read went.left_turns a d (P ++ l) (drop n file)) (add-one s) (sym c)
                ∙ ap (λ (u : Sort). next_read (fields_read went.left_turns) u s d P (contents_in g) (drop n file)) (sym t)
                ∙ went.gone;
            enough = went.still;
            within = further.1;
            few = omega arith;
            full = length-append P (take 256 (drop from file)) ∙ omega (arith, w.full, lp);
          };
          one = one;
          room = room;
          size = size;
        }

    pub after_skipped : k ≡ Skipped → Stands file n s d P
    unfolding next_read
    after_skipped q =
        let t : sort_in g ≡ passed_over = sort_is ∙ ap kind_sort q in
        record {
          turns = went.left_turns;
          left = ap (λ (u : Sort). next_read (fields_read went.left_turns) u s d P (contents_in g) (drop n file)) (sym t) ∙ went.gone;
          enough = went.still;
          within = further.1;
          few = w.few;
          full = w.full;
        }

    pub after_end_lem : k ≡ End → (answer (after_end (drop n file)) (d, P) ≡ fields_told file) × (1 ≤ s)
    unfolding next_read in_place
    after_end_lem q =
        let t : sort_in g ≡ end = sort_is ∙ ap kind_sort q in (
          ap (λ (u : Sort). next_read (fields_read went.left_turns) u s d P (contents_in g) (drop n file)) (sym t) ∙ went.gone,
          leb-true 1 s (is_true (leb 1 s) (subst (λ (u : Sort). T (in_place u s)) t ok.place)),
        )

    -- what the file tells where the end has been read: the device number and the number of pages
    pub told_end : k ≡ End → answer (after_end (drop n file)) (d, s - 1) ≡ and_then (fields_told file) (λ (t : Told). result (counted t))
    told_end q =
        let e : length P / 256 ≡ s - 1 = omega (arith, w.full) in
        ap (λ (j : ℕ). answer (after_end (drop n file)) (d, j)) (sym e)
        ∙ sym (then_result (after_end (drop n file)) (d, P) counted)
        ∙ ap (λ (a : AnswerOf Told). and_then a (λ (t : Told). result (counted t))) (after_end_lem q).0
