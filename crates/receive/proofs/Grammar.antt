-- The reader accepts exactly the files of the grammar, and tells what they hold.
-- Assumes nothing.
use mathlib.Core.Bool.{Bool, true, false, cond, not, ◌||◌}
use mathlib.Core.List.{List, [], ◌∷◌, ◌++◌, append_assoc, append-nil}
use mathlib.Core.Path.{◌≡◌, refl, sym, ap, ap₂, ◌∙◌, subst}
use Prim.Native.Nat.{ℕ, zero, suc, ◌+◌, ◌*◌, ◌/◌, ◌%◌, ◌^◌, ◌≤◌, ◌<◌}
use native.Mathlib.Omega.{arith}
use borrow.Author.Tests.{eqb-true, ne_eqb, le-leb, le-ltb}
use lib.Dec.{T, eqb, leb}
use lib.ListN.{length, take, drop, get_or, length-append, length-drop, take-append-drop}
use lib.Seq.{take_at, drop_at, length-take-le}
use Rattle.std.specs.List.{starts_with}
use Rattle.std.proofs.lemmas.Bool.Decides.{Decides-eqb}
use Rattle.std.proofs.lemmas.Slice.Eq.{starts_is}
use Rattle.cells.specs.Cells.{number, cells}
use Rattle.cells.specs.Bytes.{bits, bytes, high_first, Bytes}
use Rattle.cells.proofs.Numbers.{cells_number, number_cells, number_below, length_cells}
use Rattle.cells.proofs.Bytes.{bytes_bits, bits_bytes, length_bits, length_high_first, Bytes-take, Bytes-drop}
use Rattle.cells.proofs.Tests.{is_true, holds}
use Rattle.answer.specs.Answer.{AnswerOf, result, refusal, answer}
use Rattle.transfer.specs.File.{start, head, field, device_field, end_field}
use Rattle.transfer.proofs.Fields.{head_bytes, length_field}
use Rattle.receive.specs.Grammar.{PassedOver, After, ended, paged, passed, Before, Holds}
use Rattle.receive.specs.Grammar as grammar
use Rattle.receive.specs.Field.{Sort, device, page, end, passed_over, unknown, sort_of, is_unknown, in_place, least, most, sort_in, length_in, contents_in, behind}
use Rattle.receive.specs.Read.{field_checks, after_end, next_read, fields_read, fields_told, file_told, starts_wrongly, Told}
use Rattle.receive.proofs.Judging.{Tagged, tagged, sort_02, sort_01, sort_7_f, sort_passed, page_in, page_place, end_reached, not_a_result}
use Rattle.receive.proofs.Walking.{onward, Sound, field_sound, sound_field}

-- ---- a field in front of further bytes

module _ (tag : ℕ) (c r : List ℕ) (h : length c < 65536) where
  abbrev f : List ℕ
  f = field tag c ++ r

  abbrev n : ℕ
  n = length c

  front : f ≡ tag ∷ n / 256 ∷ n % 256 ∷ (c ++ r)
  unfolding field
  front = append_assoc (head tag n) c r ∙ ap (λ (l : List ℕ). l ++ (c ++ r)) (head_bytes tag n h)

  front_told : length_in f ≡ n
  front_told = ap length_in front ∙ omega arith

  front_sort : sort_in f ≡ sort_of tag
  front_sort = ap sort_in front

  front_contents : contents_in f ≡ c
  front_contents = ap₂ (λ (k : ℕ) (l : List ℕ). take k (drop 3 l)) front_told front ∙ take_at c r n refl

  front_behind : behind f ≡ r
  front_behind = ap (λ (k : ℕ). drop (3 + k) f) front_told ∙ ap (λ (l : List ℕ). drop (3 + n) l) front ∙ drop_more ∙ drop_at c r n refl
    where
      drop_more : drop (3 + n) (tag ∷ n / 256 ∷ n % 256 ∷ (c ++ r)) ≡ drop n (c ++ r)
      drop_more = let e : 3 + n ≡ suc (suc (suc n)) = omega arith in ap (λ (k : ℕ). drop k (tag ∷ n / 256 ∷ n % 256 ∷ (c ++ r))) e

  front_length : length f ≡ 3 + n + length r
  front_length = length-append (field tag c) r ∙ omega (arith, length_field tag c)

  -- its turn
  pub front_turn : (m s d : ℕ) (P : List ℕ) (t : Sort) → sort_of tag ≡ t → is_unknown t ≡ false → T (in_place t s) → least t ≤ n → n ≤ most t
      → fields_read (suc m) s d P f ≡ next_read (fields_read m) t s d P c r
  unfolding fields_read
  front_turn m s d P t et u p lo hi =
      let es : sort_in f ≡ t = front_sort ∙ et in
      let so : Sound s f =
      record {
        known = ap is_unknown es ∙ u;
        place = subst (λ (v : Sort). T (in_place v s)) (sym es) p;
        from = subst (λ (v : Sort). least v ≤ length_in f) (sym es) (omega (arith, front_told));
        to = subst (λ (v : Sort). length_in f ≤ most v) (sym es) (omega (arith, front_told));
        there = omega (arith, front_told, front_length);
      } in
      ap (onward m s d P f) (sound_field s f (contents_in f) so)
      ∙ ap₂ (λ (v : Sort) (k : List ℕ). next_read (fields_read m) v s d P k (behind f)) es front_contents
      ∙ ap (λ (l : List ℕ). next_read (fields_read m) t s d P c l) front_behind

-- ---- from the grammar to the reader

pub read_passed : (tag : ℕ) (c r : List ℕ) → PassedOver tag c → (m s d : ℕ) (P : List ℕ) → fields_read (suc m) s d P (field tag c ++ r) ≡ fields_read m s d P r
unfolding next_read in_place least most
read_passed tag c r h m s d P =
    front_turn tag c r h.two_bytes m s d P passed_over (sort_passed tag h.from_40 (omega (arith, h.to_6_f))) refl tt (omega arith) (omega (arith, h.two_bytes))

pub read_after : {k : ℕ} {f Q : List ℕ} → After k f Q → (m s d : ℕ) (P : List ℕ) → s + k ≡ 65 → 1 ≤ s → length f ≤ m
    → fields_read m s d P f ≡ result (d, P ++ Q)
unfolding next_read in_place least most end_field
read_after ended zero s d P e o h = absurd (omega (arith, length_field 0x7F []))
read_after ended (suc m) s d P e o h =
    ap (fields_read (suc m) s d P) (sym (append-nil (field 0x7F [])))
    ∙ front_turn 0x7F [] [] (omega arith) m s d P end (sort_7_f 0x7F refl) refl (holds (leb 1 s) (le-leb 1 s o)) (omega arith) (omega arith)
    ∙ end_reached [] (d, P) refl
    ∙ ap (λ (l : List ℕ). result (d, l)) (sym (append-nil P))
read_after (paged {n} {f} {P = Q} p l a) zero s d P e o h = absurd (omega (arith, length-append (field 1 p) f, length_field 1 p))
read_after (paged {n} {f} {P = Q} p l a) (suc m) s d P e o h =
    front_turn 0x01 p f (omega arith) m s d P page (sort_01 0x01 refl) refl (holds (in_place page s) (page_in s (λ z. omega arith) (omega arith))) (omega arith) (omega arith)
    ∙ read_after a m (suc s) d (P ++ p) (omega arith) (omega arith) (omega (arith, length-append (field 1 p) f, length_field 1 p))
    ∙ ap (λ (q : List ℕ). result (d, q)) (append_assoc P p Q)
read_after (passed {n} {f} {P = Q} tag c w a) zero s d P e o h = absurd (omega (arith, length-append (field tag c) f, length_field tag c))
read_after (passed {n} {f} {P = Q} tag c w a) (suc m) s d P e o h =
    read_passed tag c f w m s d P ∙ read_after a m s d P e o (omega (arith, length-append (field tag c) f, length_field tag c))

pub device_back : (d : ℕ) → d < 2 ^ 32 → number (bits (high_first 4 d)) ≡ d
device_back d h = ap number (bits_bytes 4 (cells 32 d) (length_cells 32 d)) ∙ number_cells 32 d h

pub read_before : {f Q : List ℕ} {d : ℕ} → Before f d Q → (m e : ℕ) → length f ≤ m → fields_read m 0 e [] f ≡ result (d, Q)
unfolding next_read in_place least most device_field
read_before (grammar.device {f} {P = Q} d b a) zero e h = absurd (omega (arith, length-append (device_field d) f, length_field 2 (high_first 4 d)))
read_before (grammar.device {f} {P = Q} d b a) (suc m) e h =
    let l = length_high_first 4 d in
    front_turn 0x02 (high_first 4 d) f (omega arith) m 0 e [] device (sort_02 0x02 refl) refl tt (omega arith) (omega arith)
    ∙ ap (λ (x : ℕ). fields_read m 1 x [] f) (device_back d b)
    ∙ read_after a m 1 d [] refl (omega arith) (omega (arith, length-append (device_field d) f, length_field 2 (high_first 4 d)))
read_before (grammar.passed {f} {P = Q} {d} tag c w a) zero e h = absurd (omega (arith, length-append (field tag c) f, length_field tag c))
read_before (grammar.passed {f} {P = Q} {d} tag c w a) (suc m) e h =
    read_passed tag c f w m 0 e [] ∙ read_before a m e (omega (arith, length-append (field tag c) f, length_field tag c))

-- ---- from the reader to the grammar

-- a whole field in front: the field and what follows
rebuilt : (f : List ℕ) → Bytes f → 3 + length_in f ≤ length f → f ≡ field (get_or f 0 0) (contents_in f) ++ behind f
unfolding field
rebuilt [] b h = absurd (omega arith)
rebuilt (x ∷ []) b h = absurd (omega arith)
rebuilt (x ∷ y ∷ []) b h = absurd (omega arith)
rebuilt (x ∷ y ∷ z ∷ g) b h =
    let k = 256 * y + z in
    let by : y < 256 = b 1 in
    let bz : z < 256 = b 2 in
    let c = take k g in
    let l : length c ≡ k = length-take-le k g (omega arith) in
    let e : 3 + k ≡ suc (suc (suc k)) = omega arith in
    let hi : length c / 256 ≡ y = omega arith in
    let lo : length c % 256 ≡ z = omega arith in
    sym
    (append_assoc (head x (length c)) c (drop (3 + k) (x ∷ y ∷ z ∷ g))
    ∙ ap (λ (p : List ℕ). p ++ (c ++ drop (3 + k) (x ∷ y ∷ z ∷ g))) (head_bytes x (length c) (omega arith) ∙ ap₂ (λ (i j : ℕ). x ∷ i ∷ j ∷ []) hi lo)
    ∙ ap (λ (j : ℕ). x ∷ y ∷ z ∷ (c ++ drop j (x ∷ y ∷ z ∷ g))) e
    ∙ ap (λ (q : List ℕ). x ∷ y ∷ z ∷ q) (take-append-drop k g))

-- the contents are as long as is length_in
length_contents : (s : ℕ) (f : List ℕ) → Sound s f → length (contents_in f) ≡ length_in f
length_contents s f h = length-take-le (length_in f) (drop 3 f) (omega (arith, h.there, length-drop 3 f))

pub record FoundAfter (k d : ℕ) (P f : List ℕ) (t : Told) : Type 0 where
  pub pages : List ℕ
  pub fields : After k f pages
  pub is : t ≡ (d, P ++ pages)

module _ (s : ℕ) (f : List ℕ) (b : Bytes f) (so : Sound s f) where
  -- the field in front, by its sort
  pub as_tagged : (u : Sort) → sort_in f ≡ u → Tagged u (get_or f 0 0)
  as_tagged u e = subst (λ (v : Sort). Tagged v (get_or f 0 0)) e (tagged (get_or f 0 0))

  pub as_field : (x : ℕ) → get_or f 0 0 ≡ x → f ≡ field x (contents_in f) ++ behind f
  as_field x e = rebuilt f b so.there ∙ ap (λ (v : ℕ). field v (contents_in f) ++ behind f) e

  pub size_is : (u : Sort) (k : ℕ) → sort_in f ≡ u → k ≤ least u → most u ≤ k → length (contents_in f) ≡ k
  size_is u k e lo hi =
      let a : least u ≤ length_in f = subst (λ (v : Sort). least v ≤ length_in f) e so.from in
      let z : length_in f ≤ most u = subst (λ (v : Sort). length_in f ≤ most v) e so.to in
      length_contents s f so ∙ omega arith

  pub passed_is : sort_in f ≡ passed_over → PassedOver (get_or f 0 0) (contents_in f)
  unfolding most
  passed_is e =
      let z : length_in f ≤ 65535 = subst (λ (v : Sort). length_in f ≤ most v) e so.to in
      let g = as_tagged passed_over e in
      record { from_40 = g.0; to_6_f = g.1; two_bytes = omega (arith, length_contents s f so) }

at_end : (r : List ℕ) (t u : Told) → answer (after_end r) u ≡ result t → (length r ≡ 0) × (t ≡ u)
unfolding after_end answer
at_end [] t u e = (refl, cc)
at_end (x ∷ r) t u e = absurd (not_a_result 16 0 t (sym (ap (λ (v : Bool). cond (not v) (refusal 16 0) (result u)) (ne_eqb (length (x ∷ r)) 0 (λ z. omega arith))) ∙ e))

pub empty : (r : List ℕ) → length r ≡ 0 → r ≡ []
empty [] e = refl
empty (x ∷ r) e = absurd (omega arith)

-- what is known of the fields after one
abbrev Further : ℕ → ℕ → Told → Type 0
Further m d t = (s k : ℕ) (P f : List ℕ) → s + k ≡ 64 → Bytes f → fields_read m (suc s) d P f ≡ result t → FoundAfter k d P f t

pub found_after : (m s k d : ℕ) (P f : List ℕ) (t : Told) → s + k ≡ 64 → Bytes f → fields_read m (suc s) d P f ≡ result t → FoundAfter k d P f t
unfolding fields_read next_read in_place least most end_field
found_after zero s k d P f t ek b e = not_a_result 14 0 t e
found_after (suc m) s k d P f t ek b e =
    go (answer (field_checks (suc s) f) (contents_in f)) refl (λ s' k' P' f' q b' e'. found_after m s' k' d P' f' t q b' e') e
  where
    paging : (j : ℕ) → j ≡ k → Sound (suc s) f → sort_in f ≡ page → Further m d t → fields_read m (suc (suc s)) d (P ++ contents_in f) (behind f) ≡ result t → FoundAfter j d P f t
    paging zero ej so eu ih h =
        absurd (omega (arith, (page_place (suc s) (subst (λ (v : Sort). T (in_place v (suc s))) eu so.place)).1))
    paging (suc j) ej so eu ih h =
        let q = ih (suc s) j (P ++ contents_in f) (behind f) (omega arith) (Bytes-drop (3 + length_in f) f b) h in
        record {
          pages = contents_in f ++ q.pages;
          fields = subst (λ (g : List ℕ). After (suc j) g (contents_in f ++ q.pages)) (sym (as_field (suc s) f b so 0x01 (as_tagged (suc s) f b so page eu)))
              (paged (contents_in f) (size_is (suc s) f b so page 256 eu (omega arith) (omega arith)) q.fields);
          is = q.is ∙ ap (λ (l : List ℕ). (d, l)) (append_assoc P (contents_in f) q.pages);
        }

    by : (u : Sort) → sort_in f ≡ u → Sound (suc s) f → Further m d t → next_read (fields_read m) u (suc s) d P (contents_in f) (behind f) ≡ result t → FoundAfter k d P f t
    by device eu so ih h =
        absurd (omega (arith, eqb-true (suc s) 0 (is_true (eqb (suc s) 0) (subst (λ (v : Sort). T (in_place v (suc s))) eu so.place))))
    by page eu so ih h = paging k refl so eu ih h
    by end eu so ih h =
        let z = at_end (behind f) t (d, P) h in
        let c : contents_in f ≡ [] = empty (contents_in f) (size_is (suc s) f b so end 0 eu (omega arith) (omega arith)) in
        record {
          pages = [];
          fields = subst (λ (g : List ℕ). After k g [])
              (sym (as_field (suc s) f b so 0x7F (as_tagged (suc s) f b so end eu) ∙ ap₂ (λ (x y : List ℕ). field 0x7F x ++ y) c (empty (behind f) z.0) ∙ append-nil (field 0x7F [])))
              ended;
          is = z.1 ∙ ap (λ (l : List ℕ). (d, l)) (sym (append-nil P));
        }
    by passed_over eu so ih h =
        let q = ih s k P (behind f) ek (Bytes-drop (3 + length_in f) f b) h in
        record {
          pages = q.pages;
          fields = subst (λ (g : List ℕ). After k g q.pages) (sym (as_field (suc s) f b so (get_or f 0 0) refl))
              (passed (get_or f 0 0) (contents_in f) (passed_is (suc s) f b so eu) q.fields);
          is = q.is;
        }
    by unknown eu so ih h = not_a_result 15 0 t h

    go : (a : AnswerOf (List ℕ)) → answer (field_checks (suc s) f) (contents_in f) ≡ a → Further m d t
        → onward m (suc s) d P f a ≡ result t → FoundAfter k d P f t
    go (result c) ea ih h =
        let so = field_sound (suc s) f (contents_in f) c ea in
        by (sort_in f) refl so.0 ih (ap (λ (x : List ℕ). next_read (fields_read m) (sort_in f) (suc s) d P x (behind f)) (sym so.1) ∙ h)
    go (refusal n i) ea ih h = not_a_result n i t h

-- ---- the same before the device number

pub record FoundBefore (f : List ℕ) (t : Told) : Type 0 where
  pub fields : Before f t.0 t.1

pub device_forth : (c : List ℕ) → Bytes c → length c ≡ 4 → high_first 4 (number (bits c)) ≡ c
device_forth c b l =
    let e : length (bits c) ≡ 32 = length_bits c ∙ ap (λ (k : ℕ). 8 * k) l in
    ap (bytes 4) (ap (λ (k : ℕ). cells k (number (bits c))) (sym e) ∙ cells_number (bits c)) ∙ ap (λ (k : ℕ). bytes k (bits c)) (sym l) ∙ bytes_bits c b

pub found_before : (m e : ℕ) (f : List ℕ) (t : Told) → Bytes f → fields_read m 0 e [] f ≡ result t → FoundBefore f t
unfolding fields_read next_read in_place least most device_field
found_before zero e f t b h = not_a_result 14 0 t h
found_before (suc m) e f t b h = go (answer (field_checks 0 f) (contents_in f)) refl (λ f' b' h'. found_before m e f' t b' h') h
  where
    by : (u : Sort) → sort_in f ≡ u → Sound 0 f → ((f' : List ℕ) → Bytes f' → fields_read m 0 e [] f' ≡ result t → FoundBefore f' t)
        → next_read (fields_read m) u 0 e [] (contents_in f) (behind f) ≡ result t → FoundBefore f t
    by device eu so ih g =
        let c = contents_in f in
        let d = number (bits c) in
        let l : length c ≡ 4 = size_is 0 f b so device 4 eu (omega arith) (omega arith) in
        let q = found_after m 0 64 d [] (behind f) t refl (Bytes-drop (3 + length_in f) f b) g in
        let bc : Bytes c = Bytes-take (length_in f) (drop 3 f) (Bytes-drop 3 f b) in
        let e8 : length (bits c) ≡ 32 = length_bits c ∙ ap (λ (k : ℕ). 8 * k) l in
        let w : Before (device_field d ++ behind f) d q.pages = grammar.device d (number_below 32 (bits c) e8) q.fields in
        let ef : device_field d ++ behind f ≡ f = ap (λ (x : List ℕ). field 0x02 x ++ behind f) (device_forth c bc l) ∙ sym (as_field 0 f b so 0x02 (as_tagged 0 f b so device eu)) in
        record { fields = subst (λ (u : Told). Before f u.0 u.1) (sym q.is) (subst (λ (x : List ℕ). Before x d q.pages) ef w) }
    by page eu so ih g = absurd (subst (λ (v : Sort). T (in_place v 0)) eu so.place)
    by end eu so ih g = absurd (subst (λ (v : Sort). T (in_place v 0)) eu so.place)
    by passed_over eu so ih g =
        let q = ih (behind f) (Bytes-drop (3 + length_in f) f b) g in
        record {
          fields = subst (λ (x : List ℕ). Before x t.0 t.1) (sym (as_field 0 f b so (get_or f 0 0) refl))
              (grammar.passed (get_or f 0 0) (contents_in f) (passed_is 0 f b so eu) q.fields);
        }
    by unknown eu so ih g = not_a_result 15 0 t g

    go : (a : AnswerOf (List ℕ)) → answer (field_checks 0 f) (contents_in f) ≡ a → ((f' : List ℕ) → Bytes f' → fields_read m 0 e [] f' ≡ result t → FoundBefore f' t)
        → onward m 0 e [] f a ≡ result t → FoundBefore f t
    go (result c) ea ih g =
        let so = field_sound 0 f (contents_in f) c ea in
        by (sort_in f) refl so.0 ih (ap (λ (x : List ℕ). next_read (fields_read m) (sort_in f) 0 e [] x (behind f)) (sym so.1) ∙ g)
    go (refusal n i) ea ih g = not_a_result n i t g

-- ---- the whole file

pub start_there : (file : List ℕ) → starts_wrongly file ≡ false → file ≡ start ++ drop 2 file
unfolding starts_wrongly
start_there [] e = absurd (subst T e tt)
start_there (x ∷ []) e = absurd (subst T e tt)
start_there (x ∷ y ∷ f) e = go (eqb x 0xF1) (eqb y 0xB0) refl refl (ap (λ (b : Bool). b || not (eqb x 0xF1) || not (eqb y 0xB0)) (sym (le-ltb (length (x ∷ y ∷ f)) 2 (omega arith))) ∙ e)
  where
    go : (a b : Bool) → eqb x 0xF1 ≡ a → eqb y 0xB0 ≡ b → (not a || not b) ≡ false → x ∷ y ∷ f ≡ 0xF1 ∷ 0xB0 ∷ f
    go true true ea eb q = ap₂ (λ (i j : ℕ). i ∷ j ∷ f) (eqb-true x 0xF1 ea) (eqb-true y 0xB0 eb)
    go true false ea eb q = absurd (subst T q tt)
    go false b ea eb q = absurd (subst T q tt)

pub start_right : (f : List ℕ) → starts_wrongly (start ++ f) ≡ false
unfolding starts_wrongly
start_right f = rw (le-ltb (length (0xF1 ∷ 0xB0 ∷ f)) 2 (omega arith)) refl

-- comparing the start tells whether it is wrong
pub right_start : (file : List ℕ) → true ≡ starts_with eqb file start → starts_wrongly file ≡ false
right_start file e =
    let f : file ≡ start ++ drop 2 file = (starts_is Decides-eqb file start true e).0 refl in ap starts_wrongly f ∙ start_right (drop 2 file)

pub wrong_start : (file : List ℕ) → false ≡ starts_with eqb file start → starts_wrongly file ≡ true
wrong_start file e = go (starts_wrongly file) refl
  where
    go : (w : Bool) → starts_wrongly file ≡ w → w ≡ true
    go true ew = refl
    go false ew = (starts_is Decides-eqb file start false e).1 (drop 2 file) (start_there file ew)

-- a file tells d and P exactly where it holds them
pub told_holds : (file : List ℕ) (d : ℕ) (P : List ℕ) → Bytes file → file_told file ≡ result (d, P) → Holds file d P
unfolding file_told fields_told
told_holds file d P b e = go (starts_wrongly file) refl e
  where
    go : (w : Bool) → starts_wrongly file ≡ w → cond w (refusal 14 0) (fields_read (length file) 0 0 [] (drop 2 file)) ≡ result (d, P) → Holds file d P
    go true ew h = not_a_result 14 0 (d, P) h
    go false ew h =
        subst (λ (l : List ℕ). Holds l d P) (sym (start_there file ew)) (grammar.holds (found_before (length file) 0 (drop 2 file) (d, P) (Bytes-drop 2 file b) h).fields)

pub holds_told : {file : List ℕ} {d : ℕ} {P : List ℕ} → Holds file d P → file_told file ≡ result (d, P)
unfolding file_told fields_told
holds_told (grammar.holds {f} {P} {d} h) = rw (start_right f) (read_before h (length (start ++ f)) 0 (omega arith))
