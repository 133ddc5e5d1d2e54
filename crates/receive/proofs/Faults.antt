-- A file is refused by 14, 15 and 16 exactly where it is broken so; and fields that are passed over change nothing.
-- Assumes nothing.
use mathlib.Core.Bool.{Bool, true, false, cond, not, ◌||◌}
use mathlib.Core.List.{List, [], ◌∷◌, ◌++◌, append_assoc}
use mathlib.Core.Logic.{inl, inr, ⊎_elim}
use mathlib.Core.Path.{◌≡◌, refl, sym, ap, ap₂, ◌∙◌, subst}
use Prim.Native.Nat.{ℕ, zero, suc, ◌+◌, ◌*◌, ◌≤◌, ◌<◌}
use native.Mathlib.Omega.{arith}
use borrow.Author.Tests.{eqb-true, eqb-false, leb-true, ltb-true, ltb-false, le-leb, ne_eqb}
use lib.Dec.{T, eqb, leb, ltb}
use lib.ListN.{length, drop, get_or, length-append, length-drop}
use Rattle.cells.specs.Cells.{number}
use Rattle.cells.specs.Bytes.{bits, high_first, Bytes}
use Rattle.cells.proofs.Bytes.{Bytes-take, Bytes-drop, length_bits, length_high_first}
use Rattle.cells.proofs.Numbers.{number_below}
use Rattle.cells.proofs.Tests.{is_true, holds}
use Rattle.answer.specs.Answer.{AnswerOf, result, refusal, answer}
use Rattle.transfer.specs.File.{start, field, device_field, end_field}
use Rattle.transfer.proofs.Fields.{length_field}
use Rattle.receive.specs.Grammar.{PassedOver, Fields, none}
use Rattle.receive.specs.Grammar as grammar
use Rattle.receive.specs.Faults.{InPlace, Fault, nothing, no_length, wrong_length, no_contents, trailing, Broken, wrong_start, at_field}
use Rattle.receive.specs.Faults as faults
use Rattle.receive.specs.Field.{Sort, device, page, end, passed_over, unknown, is_unknown, in_place, least, most, sort_in, length_in, contents_in, behind}
use Rattle.receive.specs.Read.{length_checks, field_checks, after_end, next_read, fields_read, fields_told, file_told, starts_wrongly, Told}
use Rattle.receive.proofs.Judging.{head_cut, too_short, too_long, contents_cut, nothing_there, other_tag, no_place, placed, sort_02, sort_01, sort_7_f, page_in, page_place, bytes_after, not_a_result}
use Rattle.receive.proofs.Walking.{onward, Sound, field_sound}
use Rattle.receive.proofs.Grammar.{front_turn, read_passed, as_tagged, as_field, size_is, passed_is, device_forth, device_back, empty, start_there, start_right}

-- ---- from a fault to the refusal

-- a field that is refused is the file's refusal there
refused_there : (m s d : ℕ) (P g : List ℕ) (n : ℕ) → 0 < length g → length g ≤ m → answer (field_checks s g) (contents_in g) ≡ refusal n 0
    → fields_read m s d P g ≡ refusal n 0
unfolding fields_read
refused_there zero s d P g n h l e = absurd (omega arith)
refused_there (suc m) s d P g n h l e = ap (onward m s d P g) e

module _ (s : ℕ) (g : List ℕ) (p : InPlace s g) where
  sized : answer (field_checks s g) (contents_in g) ≡ answer (length_checks (least (sort_in g)) (most (sort_in g)) g) (contents_in g)
  sized = placed s 0 g (contents_in g) (sort_in g) p.some refl p.known (is_true (in_place (sort_in g) s) p.place)

-- a fault and what follows it
pub fault_refused : {n s : ℕ} {g : List ℕ} → Fault n s g → (m d : ℕ) (P : List ℕ) → length g ≤ m → fields_read m s d P g ≡ refusal n 0
unfolding fields_read next_read in_place least most end_field
fault_refused {s = s} nothing zero d P l = refl
fault_refused {s = s} nothing (suc m) d P l =
    ap (onward m s d P []) (nothing_there s 0 [] (contents_in []) (omega arith))
fault_refused {s = s} {g = g} (faults.other_tag h u) m d P l = refused_there m s d P g 15 h l (other_tag s 0 g (contents_in g) h (unknown_is (sort_in g) u))
  where
    unknown_is : (t : Sort) → is_unknown t ≡ true → t ≡ unknown
    unknown_is device e = absurd (subst T (sym e) tt)
    unknown_is page e = absurd (subst T (sym e) tt)
    unknown_is end e = absurd (subst T (sym e) tt)
    unknown_is passed_over e = absurd (subst T (sym e) tt)
    unknown_is unknown e = refl
fault_refused {s = s} {g = g} (faults.no_place h u q) m d P l = refused_there m s d P g 15 h l (no_place s 0 g (contents_in g) (sort_in g) h refl u q)
fault_refused {s = s} {g = g} (no_length p h) m d P l =
    refused_there m s d P g 14 p.some l (sized s g p ∙ head_cut (least (sort_in g)) (most (sort_in g)) 0 g (contents_in g) (omega arith))
fault_refused {s = s} {g = g} (wrong_length p h w) m d P l =
    refused_there m s d P g 15 p.some l
    (sized s g p
    ∙ ⊎_elim (λ v. too_short (least (sort_in g)) (most (sort_in g)) 0 g (contents_in g) (omega arith) v) (λ v. too_long (least (sort_in g)) (most (sort_in g)) 0 g (contents_in g) (omega arith) v) w)
fault_refused {s = s} {g = g} (no_contents p h a z k) m d P l =
    refused_there m s d P g 14 p.some l (sized s g p ∙ contents_cut (least (sort_in g)) (most (sort_in g)) 0 g (contents_in g) (omega arith) a z (omega arith))
fault_refused {s = s} (trailing r o h) zero d P l = absurd (omega (arith, length-append (field 0x7F []) r, length_field 0x7F []))
fault_refused {s = s} (trailing r o h) (suc m) d P l =
    front_turn 0x7F [] r (omega arith) m s d P end (sort_7_f 0x7F refl) refl (holds (leb 1 s) (le-leb 1 s o)) (omega arith) (omega arith) ∙ bytes_after r (d, P) h

-- ---- fields in order are read

pub record Reads (s : ℕ) (x : List ℕ) : Type 0 where
  pub d : ℕ
  pub P : List ℕ
  pub goes : (g : List ℕ) (m : ℕ) → length (x ++ g) ≤ m → (k : ℕ) × ((fields_read m 0 0 [] (x ++ g) ≡ fields_read k s d P g) × (length g ≤ k))

-- one field more, which takes one turn
more : (s t : ℕ) (x f : List ℕ) (r : Reads s x) (e : ℕ) (Q : List ℕ) → 0 < length f
    → ((g : List ℕ) (m : ℕ) → fields_read (suc m) s r.d r.P (f ++ g) ≡ fields_read m t e Q g) → Reads t (x ++ f)
more s t x f r e Q h step = record { d = e; P = Q; goes = goes }
  where
    turn : (g : List ℕ) (m k : ℕ) → fields_read m 0 0 [] (x ++ (f ++ g)) ≡ fields_read k s r.d r.P (f ++ g) → length (f ++ g) ≤ k
        → (j : ℕ) × ((fields_read m 0 0 [] (x ++ (f ++ g)) ≡ fields_read j t e Q g) × (length g ≤ j))
    turn g m zero q l = absurd (omega (arith, length-append f g))
    turn g m (suc k) q l = (k, (q ∙ step g k, omega (arith, length-append f g)))

    goes : (g : List ℕ) (m : ℕ) → length ((x ++ f) ++ g) ≤ m → (k : ℕ) × ((fields_read m 0 0 [] ((x ++ f) ++ g) ≡ fields_read k t e Q g) × (length g ≤ k))
    goes g m l =
        let a = append_assoc x f g in
        let w = r.goes (f ++ g) m (subst (λ (y : List ℕ). length y ≤ m) a l) in
        let z = turn g m w.0 w.1.0 w.1.1 in
        (z.0, (ap (fields_read m 0 0 []) a ∙ z.1.0, z.1.1))

pub read_fields : {s : ℕ} {x : List ℕ} → Fields s x → Reads s x
unfolding next_read in_place least most device_field
read_fields none = record { d = 0; P = []; goes = λ g m l. (m, (refl, l)) }
read_fields (grammar.device {x} d b f) =
    let r = read_fields f in
    let l = length_high_first 4 d in
    more 0 1 x (device_field d) r d r.P (omega (arith, length_field 2 (high_first 4 d)))
    (λ g m. front_turn 0x02 (high_first 4 d) g (omega arith) m 0 r.d r.P device (sort_02 0x02 refl) refl tt (omega arith) (omega arith)
    ∙ ap (λ (y : ℕ). fields_read m 1 y r.P g) (device_back d b))
read_fields (grammar.paged {s} {x} p l o h f) =
    let r = read_fields f in
    more s (suc s) x (field 0x01 p) r r.d (r.P ++ p) (omega (arith, length_field 1 p))
    (λ g m. front_turn 0x01 p g (omega arith) m s r.d r.P page (sort_01 0x01 refl) refl (holds (in_place page s) (page_in s (λ z. omega arith) h)) (omega arith) (omega arith))
read_fields (grammar.passed {s} {x} tag c w f) =
    let r = read_fields f in more s s x (field tag c) r r.d r.P (omega (arith, length_field tag c)) (λ g m. read_passed tag c g w m s r.d r.P)

-- ---- turns beyond those that are needed change nothing

pub enough_turns : (m k s d : ℕ) (P g : List ℕ) → length g ≤ m → length g ≤ k → fields_read m s d P g ≡ fields_read k s d P g
unfolding fields_read next_read
enough_turns zero zero s d P g a b = refl
enough_turns zero (suc k) s d P g a b =
    let e : g ≡ [] = empty g (omega arith) in
    sym (ap (onward k s d P g)
    (ap (λ (y : List ℕ). answer (field_checks s y) (contents_in g)) e ∙ nothing_there s 0 [] (contents_in g) (omega arith)))
enough_turns (suc m) zero s d P g a b =
    let e : g ≡ [] = empty g (omega arith) in
    ap (onward m s d P g)
    (ap (λ (y : List ℕ). answer (field_checks s y) (contents_in g)) e ∙ nothing_there s 0 [] (contents_in g) (omega arith))
enough_turns (suc m) (suc k) s d P g a b = go (answer (field_checks s g) (contents_in g)) refl (λ s' d' P' f' u v. enough_turns m k s' d' P' f' u v)
  where
    by : (t : Sort) (c : List ℕ) → Sound s g → ((s' d' : ℕ) (P' f' : List ℕ) → length f' ≤ m → length f' ≤ k → fields_read m s' d' P' f' ≡ fields_read k s' d' P' f')
        → next_read (fields_read m) t s d P c (behind g) ≡ next_read (fields_read k) t s d P c (behind g)
    by device c so ih = ih _ _ P (behind g) (omega (arith, so.there, length-drop (3 + length_in g) g)) (omega (arith, so.there, length-drop (3 + length_in g) g))
    by page c so ih = ih _ _ (P ++ c) (behind g) (omega (arith, so.there, length-drop (3 + length_in g) g)) (omega (arith, so.there, length-drop (3 + length_in g) g))
    by end c so ih = refl
    by passed_over c so ih = ih _ _ P (behind g) (omega (arith, so.there, length-drop (3 + length_in g) g)) (omega (arith, so.there, length-drop (3 + length_in g) g))
    by unknown c so ih = refl

    go : (x : AnswerOf (List ℕ)) → answer (field_checks s g) (contents_in g) ≡ x
        → ((s' d' : ℕ) (P' f' : List ℕ) → length f' ≤ m → length f' ≤ k → fields_read m s' d' P' f' ≡ fields_read k s' d' P' f')
        → onward m s d P g x ≡ onward k s d P g x
    go (result c) e ih = by (sort_in g) c (field_sound s g (contents_in g) c e).0 ih
    go (refusal i j) e ih = refl

-- ---- what is length_in of the whole file

told_from : (f : List ℕ) → file_told (start ++ f) ≡ fields_read (length (start ++ f)) 0 0 [] f
unfolding file_told fields_told
told_from f = rw (start_right f) refl

-- "Tags 40 to 6F (hexadecimal) of any length are passed over": such a field, wherever fields are in order before it, changes nothing
pub passes : {s : ℕ} {x : List ℕ} (tag : ℕ) (c g : List ℕ) → Fields s x → PassedOver tag c
    → file_told (start ++ (x ++ (field tag c ++ g))) ≡ file_told (start ++ (x ++ g))
passes {s} {x} tag c g f w =
    let r = read_fields f in
    let m = length (start ++ (x ++ (field tag c ++ g))) in
    let n = length (start ++ (x ++ g)) in
    let u = r.goes (field tag c ++ g) m (omega arith) in
    let v = r.goes g n (omega arith) in
    told_from (x ++ (field tag c ++ g)) ∙ u.1.0
    ∙ skip u.0 r u.1.1
    ∙ enough_turns u.0 v.0 s r.d r.P g (omega (arith, u.1.1, length-append (field tag c) g)) v.1.1
    ∙ sym (told_from (x ++ g) ∙ v.1.0)
  where
    skip : (k : ℕ) (r : Reads s x) → length (field tag c ++ g) ≤ k → fields_read k s r.d r.P (field tag c ++ g) ≡ fields_read k s r.d r.P g
    skip zero r l = absurd (omega (arith, length-append (field tag c) g, length_field tag c))
    skip (suc k) r l =
        read_passed tag c g w k s r.d r.P
        ∙ enough_turns k (suc k) s r.d r.P g (omega (arith, length-append (field tag c) g, length_field tag c)) (omega (arith, length-append (field tag c) g, length_field tag c))

-- a broken file is refused so
pub broken_refused : {n : ℕ} {file : List ℕ} → Broken n file → file_told file ≡ refusal n 0
unfolding file_told
broken_refused {file = file} (wrong_start h) = go (starts_wrongly file) refl
  where
    go : (b : Bool) → starts_wrongly file ≡ b → cond b (refusal 14 0) (fields_told file) ≡ refusal 14 0
    go true e = refl
    go false e = absurd (h (drop 2 file) (start_there file e))
broken_refused (at_field {n} {s} {x} {g} f q) =
    let r = read_fields f in
    let u = r.goes g (length (start ++ (x ++ g))) (omega arith) in
    told_from (x ++ g) ∙ u.1.0 ∙ fault_refused q u.0 r.d r.P u.1.1

-- ---- from a refusal to the fault

-- a field that is refused is at fault
field_fault : {A : Type 0} (s : ℕ) (g : List ℕ) (x : A) (n k : ℕ) → answer (field_checks s g) x ≡ refusal n k → Fault n s g × (k ≡ 0)
unfolding field_checks length_checks answer
field_fault {A} s g x n k e =
    go (eqb (length g) 0) (is_unknown (sort_in g)) (in_place (sort_in g) s) (ltb (length g) 3) (ltb (length_in g) (least (sort_in g))) (ltb (most (sort_in g)) (length_in g)) (ltb (length g) (3 + length_in g))
    refl refl refl refl refl refl refl e
  where
    to_14 : ◌≡◌ {A = AnswerOf A} (refusal 14 0) (refusal n k) → Fault 14 s g → Fault n s g × (k ≡ 0)
    to_14 q f = let a : 14 ≡ n = cc in let b : 0 ≡ k = cc in (subst (λ (i : ℕ). Fault i s g) a f, sym b)

    to_15 : ◌≡◌ {A = AnswerOf A} (refusal 15 0) (refusal n k) → Fault 15 s g → Fault n s g × (k ≡ 0)
    to_15 q f = let a : 15 ≡ n = cc in let b : 0 ≡ k = cc in (subst (λ (i : ℕ). Fault i s g) a f, sym b)

    some : eqb (length g) 0 ≡ false → 0 < length g
    some q = let h : ¬ (length g ≡ 0) = eqb-false (length g) 0 q in omega arith

    here : eqb (length g) 0 ≡ false → is_unknown (sort_in g) ≡ false → in_place (sort_in g) s ≡ true → InPlace s g
    here a b c = record { some = some a; known = b; place = holds (in_place (sort_in g) s) c }

    go : (b₀ b₁ b₂ b₃ b₄ b₅ b₆ : Bool) → eqb (length g) 0 ≡ b₀ → is_unknown (sort_in g) ≡ b₁ → in_place (sort_in g) s ≡ b₂ → ltb (length g) 3 ≡ b₃
        → ltb (length_in g) (least (sort_in g)) ≡ b₄ → ltb (most (sort_in g)) (length_in g) ≡ b₅ → ltb (length g) (3 + length_in g) ≡ b₆
        → cond b₀ (refusal 14 0) (cond b₁ (refusal 15 0) (cond (not b₂) (refusal 15 0) (cond b₃ (refusal 14 0) (cond (b₄ || b₅) (refusal 15 0) (cond b₆ (refusal 14 0) (result x)))))) ≡ refusal n k
        → Fault n s g × (k ≡ 0)
    go true b₁ b₂ b₃ b₄ b₅ b₆ e₀ e₁ e₂ e₃ e₄ e₅ e₆ q =
        to_14 q (subst (λ (l : List ℕ). Fault 14 s l) (sym (empty g (eqb-true (length g) 0 e₀))) nothing)
    go false true b₂ b₃ b₄ b₅ b₆ e₀ e₁ e₂ e₃ e₄ e₅ e₆ q = to_15 q (faults.other_tag (some e₀) e₁)
    go false false false b₃ b₄ b₅ b₆ e₀ e₁ e₂ e₃ e₄ e₅ e₆ q = to_15 q (faults.no_place (some e₀) e₁ e₂)
    go false false true true b₄ b₅ b₆ e₀ e₁ e₂ e₃ e₄ e₅ e₆ q = to_14 q (no_length (here e₀ e₁ e₂) (ltb-true (length g) 3 e₃))
    go false false true false true b₅ b₆ e₀ e₁ e₂ e₃ e₄ e₅ e₆ q =
        to_15 q (wrong_length (here e₀ e₁ e₂) (ltb-false (length g) 3 e₃) (inl (ltb-true (length_in g) (least (sort_in g)) e₄)))
    go false false true false false true b₆ e₀ e₁ e₂ e₃ e₄ e₅ e₆ q =
        to_15 q (wrong_length (here e₀ e₁ e₂) (ltb-false (length g) 3 e₃) (inr (ltb-true (most (sort_in g)) (length_in g) e₅)))
    go false false true false false false true e₀ e₁ e₂ e₃ e₄ e₅ e₆ q =
        to_14 q
        (no_contents (here e₀ e₁ e₂) (ltb-false (length g) 3 e₃) (ltb-false (length_in g) (least (sort_in g)) e₄) (ltb-false (most (sort_in g)) (length_in g) e₅) (ltb-true (length g) (3 + length_in g) e₆))
    go false false true false false false false e₀ e₁ e₂ e₃ e₄ e₅ e₆ q = not_a_result n k x (sym q)

-- bytes after the end
end_fault : (r : List ℕ) (u : Told) (n k : ℕ) → answer (after_end r) u ≡ refusal n k → (0 < length r) × (n ≡ 16) × (k ≡ 0)
unfolding after_end answer
end_fault [] u n k e = not_a_result n k u (sym e)
end_fault (x ∷ r) u n k e =
    let z : ◌≡◌ {A = AnswerOf Told} (refusal 16 0) (refusal n k) =
    sym (ap (λ (v : Bool). cond (not v) (refusal 16 0) (result u)) (ne_eqb (length (x ∷ r)) 0 (λ q. omega arith))) ∙ e in
    (omega arith, cc, cc)

abbrev Found : ℕ → ℕ → List ℕ → Type 0
Found n k f = Broken n (start ++ f) × (k ≡ 0)

-- fields in order before g, and a refusal at g or after it
found_fault : (m s d : ℕ) (P x g : List ℕ) (n k : ℕ) → Fields s x → Bytes g → length g ≤ m → fields_read m s d P g ≡ refusal n k → Found n k (x ++ g)
unfolding fields_read next_read in_place least most device_field end_field
found_fault zero s d P x g n k f b l e =
    let z : ◌≡◌ {A = AnswerOf Told} (refusal 14 0) (refusal n k) = e in
    let a : 14 ≡ n = cc in
    let c : k ≡ 0 = cc in
    let q : Fault 14 s g = subst (λ (y : List ℕ). Fault 14 s y) (sym (empty g (omega arith))) nothing in
    (at_field f (subst (λ (i : ℕ). Fault i s g) a q), c)
found_fault (suc m) s d P x g n k f b l e =
    go (answer (field_checks s g) (contents_in g)) refl (λ s' d' P' x' g' f' b' l' e'. found_fault m s' d' P' x' g' n k f' b' l' e') e
  where
    go_on : (y : List ℕ) → g ≡ y ++ behind g → Found n k ((x ++ y) ++ behind g) → Found n k (x ++ g)
    go_on y q w = subst (Found n k) (append_assoc x y (behind g) ∙ ap (λ (h : List ℕ). x ++ h) (sym q)) w

    left : Sound s g → length (behind g) ≤ m
    left so = omega (arith, so.there, length-drop (3 + length_in g) g)

    by : (t : Sort) → sort_in g ≡ t → Sound s g
        → ((s' d' : ℕ) (P' x' g' : List ℕ) → Fields s' x' → Bytes g' → length g' ≤ m → fields_read m s' d' P' g' ≡ refusal n k → Found n k (x' ++ g'))
        → next_read (fields_read m) t s d P (contents_in g) (behind g) ≡ refusal n k → Found n k (x ++ g)
    by device et so ih h =
        let c = contents_in g in
        let v = number (bits c) in
        let z : s ≡ 0 = eqb-true s 0 (is_true (eqb s 0) (subst (λ (u : Sort). T (in_place u s)) et so.place)) in
        let lc : length c ≡ 4 = size_is s g b so device 4 et (omega arith) (omega arith) in
        let bc : Bytes c = Bytes-take (length_in g) (drop 3 g) (Bytes-drop 3 g b) in
        let e8 : length (bits c) ≡ 32 = length_bits c ∙ ap (λ (j : ℕ). 8 * j) lc in
        let q : g ≡ device_field v ++ behind g = as_field s g b so 0x02 (as_tagged s g b so device et) ∙ ap (λ (y : List ℕ). field 0x02 y ++ behind g) (sym (device_forth c bc lc)) in
        let f0 : Fields 0 x = subst (λ (i : ℕ). Fields i x) z f in
        let f1 : Fields 1 (x ++ device_field v) = grammar.device v (number_below 32 (bits c) e8) f0 in
        go_on (device_field v) q (ih (suc s) v P (x ++ device_field v) (behind g) (subst (λ (i : ℕ). Fields (suc i) (x ++ device_field v)) (sym z) f1) (Bytes-drop (3 + length_in g) g b) (left so) h)
    by page et so ih h =
        let c = contents_in g in
        let pp = page_place s (subst (λ (u : Sort). T (in_place u s)) et so.place) in
        let q : g ≡ field 0x01 c ++ behind g = as_field s g b so 0x01 (as_tagged s g b so page et) in
        let f1 : Fields (suc s) (x ++ field 0x01 c) = grammar.paged c (size_is s g b so page 256 et (omega arith) (omega arith)) pp.0 pp.1 f in
        go_on (field 0x01 c) q (ih (suc s) d (P ++ c) (x ++ field 0x01 c) (behind g) f1 (Bytes-drop (3 + length_in g) g b) (left so) h)
    by end et so ih h =
        let w = end_fault (behind g) (d, P) n k h in
        let c : contents_in g ≡ [] = empty (contents_in g) (size_is s g b so end 0 et (omega arith) (omega arith)) in
        let q : g ≡ end_field ++ behind g = as_field s g b so 0x7F (as_tagged s g b so end et) ∙ ap (λ (y : List ℕ). field 0x7F y ++ behind g) c in
        let o : 1 ≤ s = leb-true 1 s (is_true (leb 1 s) (subst (λ (u : Sort). T (in_place u s)) et so.place)) in
        let t : Fault 16 s (end_field ++ behind g) = trailing (behind g) o w.0 in
        let t' : Fault n s g = subst (λ (i : ℕ). Fault i s g) (sym w.1) (subst (λ (y : List ℕ). Fault 16 s y) (sym q) t) in
        (at_field f t', w.2)
    by passed_over et so ih h =
        let q : g ≡ field (get_or g 0 0) (contents_in g) ++ behind g = as_field s g b so (get_or g 0 0) refl in
        let f1 : Fields s (x ++ field (get_or g 0 0) (contents_in g)) = grammar.passed (get_or g 0 0) (contents_in g) (passed_is s g b so et) f in
        go_on (field (get_or g 0 0) (contents_in g)) q (ih s d P (x ++ field (get_or g 0 0) (contents_in g)) (behind g) f1 (Bytes-drop (3 + length_in g) g b) (left so) h)
    by unknown et so ih h = absurd (subst (λ (u : Sort). T (in_place u s)) et so.place)

    go : (a : AnswerOf (List ℕ)) → answer (field_checks s g) (contents_in g) ≡ a
        → ((s' d' : ℕ) (P' x' g' : List ℕ) → Fields s' x' → Bytes g' → length g' ≤ m → fields_read m s' d' P' g' ≡ refusal n k → Found n k (x' ++ g'))
        → onward m s d P g a ≡ refusal n k → Found n k (x ++ g)
    go (result c) ea ih h =
        let so = field_sound s g (contents_in g) c ea in
        by (sort_in g) refl so.0 ih (ap (λ (y : List ℕ). next_read (fields_read m) (sort_in g) s d P y (behind g)) (sym so.1) ∙ h)
    go (refusal i j) ea ih h =
        let a : i ≡ n = cc in
        let c : j ≡ k = cc in
        let w = field_fault s g (contents_in g) n k (ea ∙ ap₂ refusal a c) in (at_field f w.0, w.1)

pub refused_broken : (file : List ℕ) (n k : ℕ) → Bytes file → file_told file ≡ refusal n k → Broken n file × (k ≡ 0)
unfolding file_told fields_told
refused_broken file n k b e = go (starts_wrongly file) refl e
  where
    not_start : starts_wrongly file ≡ true → (f : List ℕ) → file ≡ start ++ f → ⊥
    not_start w f q = subst T (sym w ∙ ap starts_wrongly q ∙ start_right f) tt

    go : (w : Bool) → starts_wrongly file ≡ w → cond w (refusal 14 0) (fields_read (length file) 0 0 [] (drop 2 file)) ≡ refusal n k → Broken n file × (k ≡ 0)
    go true ew h =
        let a : 14 ≡ n = cc in
        let c : k ≡ 0 = cc in
        let q : Broken 14 file = wrong_start (not_start ew) in (subst (λ (i : ℕ). Broken i file) a q, c)
    go false ew h =
        let w = found_fault (length file) 0 0 [] [] (drop 2 file) n k none (Bytes-drop 2 file b) (omega (arith, length-drop 2 file)) h in
        (subst (Broken n) (sym (start_there file ew)) w.0, w.1)
