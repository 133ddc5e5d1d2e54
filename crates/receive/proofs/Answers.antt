-- Just when the reader accepts, and when it refuses by each number; what it leaves.
-- Assumes nothing.
use mathlib.Core.Bool.{Bool, true, false, cond}
use mathlib.Core.List.{List, [], ◌∷◌, ◌++◌}
use mathlib.Core.Logic.{◌↔◌, ◌⊎◌, inl, inr, ⊎_elim}
use mathlib.Core.Path.{◌≡◌, refl, sym, ap, ap₂, ◌∙◌, subst}
use Prim.Native.Nat.{ℕ, ◌*◌, ◌/◌, ◌≤◌, ◌<◌}
use native.Mathlib.Omega.{arith}
use lib.Dec.{T, ltb}
use lib.ListN.{length, drop}
use Rattle.cells.specs.Bytes.{Bytes, at_start}
use Rattle.answer.specs.Answer.{AnswerOf, result, refusal, refuse, answer, after, among, RefusesBy}
use Rattle.answer.proofs.Tells.{less, first_refused, passed}
use Rattle.receive.specs.Grammar.{Holds}
use Rattle.receive.specs.Faults.{Broken}
use Rattle.receive.specs.Read.{and_then, Told, counted, file_told, fields_told, starts_wrongly, pages_told, read_file_answer, read_file_leaves}
use Rattle.receive.proofs.Judging.{not_a_result}
use Rattle.receive.proofs.Copying.{whole_pages}
use Rattle.receive.proofs.Grammar.{told_holds, holds_told}
use Rattle.receive.proofs.Faults.{broken_refused, refused_broken}
use Rattle.receive.proofs.Rules.{numbers}

-- ---- the last check

abbrev short : List ℕ → Told → AnswerOf (ℕ × ℕ)
short out t = answer (refuse (ltb (length out) (length t.1)) 3 0 ∷ []) (counted t)

fits : (out : List ℕ) (t : Told) → length t.1 ≤ length out → short out t ≡ result (counted t)
unfolding answer
fits out t h = passed (less (length out) (length t.1)) 3 0 [] (counted t) h

too_long : (out : List ℕ) (t : Told) → length out < length t.1 → short out t ≡ refusal 3 0
too_long out t h = first_refused (less (length out) (length t.1)) 3 0 [] (counted t) h

-- which of the two it is
room : (out : List ℕ) (t : Told) (p : ℕ × ℕ) → short out t ≡ result p → (length t.1 ≤ length out) × (p ≡ counted t)
room out t p e = go (ltb (length out) (length t.1)) refl
  where
    go : (b : Bool) → ltb (length out) (length t.1) ≡ b → (length t.1 ≤ length out) × (p ≡ counted t)
    go true q = not_a_result 3 0 p (sym (too_long out t ((less (length out) (length t.1)).if_holds q)) ∙ e)
    go false q = let h = (less (length out) (length t.1)).if_not q in (h, let z : result p ≡ result (counted t) = sym e ∙ fits out t h in cc)

no_room : (out : List ℕ) (t : Told) (n k : ℕ) → short out t ≡ refusal n k → (length out < length t.1) × (n ≡ 3) × (k ≡ 0)
no_room out t n k e = go (ltb (length out) (length t.1)) refl
  where
    go : (b : Bool) → ltb (length out) (length t.1) ≡ b → (length out < length t.1) × (n ≡ 3) × (k ≡ 0)
    go true q =
        let h = (less (length out) (length t.1)).if_holds q in
        let z : ◌≡◌ {A = AnswerOf (ℕ × ℕ)} (refusal 3 0) (refusal n k) = sym (too_long out t h) ∙ e in (h, cc, cc)
    go false q = not_a_result n k (counted t) (sym e ∙ fits out t ((less (length out) (length t.1)).if_not q))

-- ---- the answer by what the file tells

whole : (file : List ℕ) (t : Told) → file_told file ≡ result t → length t.1 ≡ 256 * (length t.1 / 256)
unfolding file_told
whole file t e = go (starts_wrongly file) refl e
  where
    go : (w : Bool) → starts_wrongly file ≡ w → cond w (refusal 14 0) (fields_told file) ≡ result t → length t.1 ≡ 256 * (length t.1 / 256)
    go true ew h = not_a_result 14 0 t h
    go false ew h = whole_pages file t h

module _ (file out : List ℕ) where
  answered : (x : AnswerOf Told) → file_told file ≡ x → read_file_answer file out ≡ and_then x (short out)
  unfolding read_file_answer
  answered x e = ap (λ (y : AnswerOf Told). and_then y (short out)) e

  -- a file that holds what fits is accepted, and its pages are left
  pub holds_accepted : (d : ℕ) (P : List ℕ) → Holds file d P → length P ≤ length out → read_file_answer file out ≡ result (d, length P / 256)
  holds_accepted d P h l = answered (result (d, P)) (holds_told h) ∙ fits out (d, P) l

  pub holds_leaves : (d : ℕ) (P : List ℕ) → Holds file d P → length P ≤ length out → read_file_leaves file out ≡ P ++ drop (length P) out
  unfolding at_start
  holds_leaves d P h l =
      ap (λ (a : AnswerOf (ℕ × ℕ)). after a out (at_start (pages_told (file_told file)) out)) (holds_accepted d P h l)
      ∙ ap (λ (x : AnswerOf Told). at_start (pages_told x) out) (holds_told h)

module _ (file out : List ℕ) (b : Bytes file) where
  pub read_file : (d n : ℕ) → (read_file_answer file out ≡ result (d, n))
      ↔ ((P : List ℕ) × (Holds file d P × (length P ≡ 256 * n) × (length P ≤ length out)))
  read_file d n = (λ e. forth (file_told file) refl e, λ h. back h)
    where
      forth : (x : AnswerOf Told) → file_told file ≡ x → read_file_answer file out ≡ result (d, n)
          → (P : List ℕ) × (Holds file d P × (length P ≡ 256 * n) × (length P ≤ length out))
      forth (refusal m k) ex e = not_a_result m k (d, n) (sym (answered file out (refusal m k) ex) ∙ e)
      forth (result t) ex e =
          let r = room out t (d, n) (sym (answered file out (result t) ex) ∙ e) in
          let ed : d ≡ t.0 = ap (λ (p : ℕ × ℕ). p.0) r.1 in
          let en : n ≡ length t.1 / 256 = ap (λ (p : ℕ × ℕ). p.1) r.1 in
          (t.1, (told_holds file d t.1 b (ex ∙ ap (λ (x : ℕ). result (x, t.1)) (sym ed)), whole file t ex ∙ ap (λ (k : ℕ). 256 * k) (sym en), r.0))

      back : (P : List ℕ) × (Holds file d P × (length P ≡ 256 * n) × (length P ≤ length out)) → read_file_answer file out ≡ result (d, n)
      back h =
          let l : length h.0 ≡ 256 * n = h.1.1 in
          let q : length h.0 / 256 ≡ n = omega arith in
          holds_accepted file out d h.0 h.1.0 h.1.2 ∙ ap (λ (k : ℕ). result (d, k)) q

  pub read_file_3 : (k : ℕ) → (read_file_answer file out ≡ refusal 3 k)
      ↔ ((d : ℕ) × ((P : List ℕ) × (Holds file d P × (length out < length P) × (k ≡ 0))))
  read_file_3 k = (
    λ e. forth (file_told file) refl e,
    λ h.
        answered file out (result (h.0, h.1.0)) (holds_told h.1.1.0) ∙ too_long out (h.0, h.1.0) h.1.1.1
        ∙ ap (refusal 3) (sym h.1.1.2),
  )
    where
      forth : (x : AnswerOf Told) → file_told file ≡ x → read_file_answer file out ≡ refusal 3 k
          → (d : ℕ) × ((P : List ℕ) × (Holds file d P × (length out < length P) × (k ≡ 0)))
      forth (refusal m j) ex e =
          let z : ◌≡◌ {A = AnswerOf (ℕ × ℕ)} (refusal m j) (refusal 3 k) = sym (answered file out (refusal m j) ex) ∙ e in
          let y : m ≡ 3 = cc in
          absurd (⊎_elim (λ q. omega arith) (λ q. ⊎_elim (λ p. omega arith) (λ p. omega arith) q) (numbers file m (refused_broken file m j b ex).0))
      forth (result t) ex e =
          let r = no_room out t 3 k (sym (answered file out (result t) ex) ∙ e) in (t.0, (t.1, (told_holds file t.0 t.1 b ex, r.0, r.2)))

  -- 14, 15 and 16
  pub read_file_broken : (n k : ℕ) → ¬ (n ≡ 3) → (read_file_answer file out ≡ refusal n k) ↔ (Broken n file × (k ≡ 0))
  read_file_broken n k h = (
    λ e. forth (file_told file) refl e,
    λ q. answered file out (refusal n 0) (broken_refused q.0) ∙ ap (refusal n) (sym q.1),
  )
    where
      forth : (x : AnswerOf Told) → file_told file ≡ x → read_file_answer file out ≡ refusal n k → Broken n file × (k ≡ 0)
      forth (refusal m j) ex e =
          let z : ◌≡◌ {A = AnswerOf (ℕ × ℕ)} (refusal m j) (refusal n k) = sym (answered file out (refusal m j) ex) ∙ e in
          let y : m ≡ n = cc in
          let w : j ≡ k = cc in refused_broken file n k b (ex ∙ ap₂ refusal y w)
      forth (result t) ex e = absurd (h (no_room out t n k (sym (answered file out (result t) ex) ∙ e)).1)

  -- no other number, and no index
  pub read_file_numbers : RefusesBy (14 ∷ 15 ∷ 16 ∷ 3 ∷ []) (read_file_answer file out)
  unfolding among
  read_file_numbers = record { listed = λ n k e. go (file_told file) refl n k e }
    where
      listed : (n : ℕ) → (n ≡ 14) ⊎ ((n ≡ 15) ⊎ (n ≡ 16)) → T (among n (14 ∷ 15 ∷ 16 ∷ 3 ∷ []))
      listed n (inl q) = rw q tt
      listed n (inr (inl q)) = rw q tt
      listed n (inr (inr q)) = rw q tt

      go : (x : AnswerOf Told) → file_told file ≡ x → (n k : ℕ) → read_file_answer file out ≡ refusal n k → T (among n (14 ∷ 15 ∷ 16 ∷ 3 ∷ []))
      go (refusal m j) ex n k e =
          let z : ◌≡◌ {A = AnswerOf (ℕ × ℕ)} (refusal m j) (refusal n k) = sym (answered file out (refusal m j) ex) ∙ e in
          let y : m ≡ n = cc in listed n (subst (λ (i : ℕ). (i ≡ 14) ⊎ ((i ≡ 15) ⊎ (i ≡ 16))) y (numbers file m (refused_broken file m j b ex).0))
      go (result t) ex n k e = rw (no_room out t n k (sym (answered file out (result t) ex) ∙ e)).1 tt
