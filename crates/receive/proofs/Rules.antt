-- The rules of a file, by what its reader is told: each file holds one content or has one fault, and a file that is written holds what went in.
-- Assumes nothing.
use mathlib.Core.List.{List, [], ◌∷◌, ◌++◌, append_assoc}
use mathlib.Core.Logic.{◌⊎◌, inl, inr}
use mathlib.Core.Path.{◌≡◌, refl, sym, ap, ◌∙◌, subst}
use Prim.Native.Nat.{ℕ, zero, suc, ◌+◌, ◌*◌, ◌/◌, ◌^◌, ◌≤◌, ◌<◌}
use native.Mathlib.Omega.{arith}
use lib.ListN.{length, take, drop, length-drop, length-append, take-append-drop}
use lib.Seq.{length-take-le}
use Rattle.cells.specs.Bytes.{Bytes}
use Rattle.answer.specs.Answer.{AnswerOf, result, refusal}
use Rattle.transfer.specs.File.{start, field, device_field, page_fields, end_field, file_of}
use Rattle.transfer.specs.Claims.{Carried}
use Rattle.receive.specs.Grammar.{After, ended, paged, Before, Holds}
use Rattle.receive.specs.Grammar as grammar
use Rattle.receive.specs.Faults.{Fault, nothing, other_tag, no_place, no_length, wrong_length, no_contents, trailing, Broken, wrong_start, at_field}
use Rattle.receive.specs.Read.{Told, file_told}
use Rattle.receive.proofs.Judging.{not_a_result}
use Rattle.receive.proofs.Grammar.{told_holds, holds_told}
use Rattle.receive.proofs.Faults.{broken_refused, refused_broken}

-- ---- one content, one fault, and not both

pub one_content : (file : List ℕ) (d e : ℕ) (P Q : List ℕ) → Holds file d P → Holds file e Q → (d ≡ e) × (P ≡ Q)
one_content file d e P Q h k =
    let z : ◌≡◌ {A = AnswerOf Told} (result (d, P)) (result (e, Q)) = sym (holds_told h) ∙ holds_told k in
    let q : ◌≡◌ {A = Told} (d, P) (e, Q) = cc in (ap (λ (t : Told). t.0) q, ap (λ (t : Told). t.1) q)

pub one_fault : (file : List ℕ) (n m : ℕ) → Broken n file → Broken m file → n ≡ m
one_fault file n m h k =
    let z : ◌≡◌ {A = AnswerOf Told} (refusal n 0) (refusal m 0) = sym (broken_refused h) ∙ broken_refused k in cc

pub not_both : (file : List ℕ) (d n : ℕ) (P : List ℕ) → Holds file d P → Broken n file → ⊥
not_both file d n P h k = not_a_result n 0 (d, P) (sym (broken_refused k) ∙ holds_told h)

pub either : (file : List ℕ) → Bytes file → ((d : ℕ) × ((P : List ℕ) × Holds file d P)) ⊎ ((n : ℕ) × Broken n file)
either file b = go (file_told file) refl
  where
    go : (x : AnswerOf Told) → file_told file ≡ x → ((d : ℕ) × ((P : List ℕ) × Holds file d P)) ⊎ ((n : ℕ) × Broken n file)
    go (result t) e = inl (t.0, (t.1, told_holds file t.0 t.1 b e))
    go (refusal n k) e = inr (n, (refused_broken file n k b e).0)

fault_number : {n s : ℕ} {g : List ℕ} → Fault n s g → (n ≡ 14) ⊎ ((n ≡ 15) ⊎ (n ≡ 16))
fault_number nothing = inl refl
fault_number (other_tag h u) = inr (inl refl)
fault_number (no_place h u q) = inr (inl refl)
fault_number (no_length p h) = inl refl
fault_number (wrong_length p h w) = inr (inl refl)
fault_number (no_contents p h a z k) = inl refl
fault_number (trailing r o h) = inr (inr refl)

pub numbers : (file : List ℕ) (n : ℕ) → Broken n file → (n ≡ 14) ⊎ ((n ≡ 15) ⊎ (n ≡ 16))
numbers file n (wrong_start h) = inl refl
numbers file n (at_field f q) = fault_number q

-- ---- whole pages, at most 64

after_whole : {k : ℕ} {f P : List ℕ} → After k f P → (j : ℕ) × ((length P ≡ 256 * j) × (j ≤ k))
after_whole ended = (0, (refl, omega arith))
after_whole (paged {n} {f} {P} p l a) =
    let w = after_whole a in (1 + w.0, (length-append p P ∙ omega (arith, l, w.1.0), omega (arith, w.1.1)))
after_whole (grammar.passed tag c w a) = after_whole a

before_bounded : {f P : List ℕ} {d : ℕ} → Before f d P → (d < 2 ^ 32) × Carried P
before_bounded (grammar.device d b a) = let w = after_whole a in (b, (omega (arith, w.1), omega (arith, w.1)))
before_bounded (grammar.passed tag c w a) = before_bounded a

pub bounded : (file : List ℕ) (d : ℕ) (P : List ℕ) → Holds file d P → (d < 2 ^ 32) × Carried P
bounded file d P (grammar.holds h) = before_bounded h

-- ---- what is written

pages_after : (n k : ℕ) (P : List ℕ) → length P ≡ 256 * n → n ≤ k → After k (page_fields n P ++ end_field) P
unfolding page_fields
pages_after zero k [] l h = ended
pages_after zero k (x ∷ P) l h = absurd (omega arith)
pages_after (suc n) zero P l h = absurd (omega arith)
pages_after (suc n) (suc k) P l h =
    let fields = page_fields n (drop 256 P) in
    let page = field 0x01 (take 256 P) in
    let r = pages_after n k (drop 256 P) (length-drop 256 P ∙ omega arith) (omega arith) in
    let w : After (suc k) (page ++ (fields ++ end_field)) (take 256 P ++ drop 256 P) = paged (take 256 P) (length-take-le 256 P (omega arith)) r in
    subst (λ (Q : List ℕ). After (suc k) (page ++ fields ++ end_field) Q) (take-append-drop 256 P)
    (subst (λ (f : List ℕ). After (suc k) f (take 256 P ++ drop 256 P)) (sym (append_assoc page fields end_field)) w)

pub written : (d : ℕ) (P : List ℕ) → d < 2 ^ 32 → Carried P → Holds (file_of d P) d P
unfolding file_of
written d P b h =
    let n = length P / 256 in
    let fields = page_fields n P in
    let l : length P ≡ 256 * n = omega arith in
    subst (λ (f : List ℕ). Holds f d P) (sym (append_assoc (start ++ device_field d) fields end_field ∙ append_assoc start (device_field d) (fields ++ end_field)))
    (grammar.holds (grammar.device d b (pages_after n 64 P l (omega arith))))
