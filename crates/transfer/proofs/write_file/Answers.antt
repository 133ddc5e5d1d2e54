-- `transfer::write_file` meets its contract: each test answers as the definition does, in its order, and the parts one after another are
-- the file. Assumes nothing.
use mathlib.Core.List.{List, ◌++◌}
use mathlib.Core.Logic.{◌⊎◌, inl, inr}
use mathlib.Core.Path.{◌≡◌, refl, sym, ap, ap₂, ◌∙◌}
use Prim.Native.Nat.{ℕ, ◌+◌, ◌*◌, ◌/◌, ◌%◌, ◌≤◌, ◌<◌}
use native.Mathlib.Omega.{arith}
use lib.ListN.{length}
use lib.Seq.{sets}
use Rattle.cells.specs.Bytes.{at_start}
use Rattle.cells.proofs.Storing.{sets_then, sets_at_start}
use Rattle.transfer.specs.File.{start, head, device_field, page_fields, end_field, file_of}
use Rattle.transfer.proofs.Fields.{field_empty}
use Rattle.transfer.proofs.FileAnswers.{write_file, write_file_13, write_file_3}
use Rattle.transfer.proofs.Places.{front, length_front, length_before, file_of_lem, length_file}
use Rattle.transfer.proofs.write_file.Goals.{then-pages-ne0-via-then-pages-ne0, then-pages-ne0-via-else-pages-ne0+then-pages}
use Rattle.transfer.proofs.write_file.Goals as goal

-- the four parts, one after another
parts : (d n : ℕ) (P out o₁ o₂ o₃ o₄ : List ℕ) → length P ≡ 256 * n → 12 + 259 * n ≤ length out
    → o₁ ≡ sets out 0 start → o₂ ≡ sets o₁ 2 (device_field d) → o₃ ≡ sets o₂ 9 (page_fields n P) → o₄ ≡ sets o₃ (9 + 259 * n) (head 0x7F 0)
    → o₄ ≡ at_start (file_of d P) out
unfolding end_field
parts d n P out o₁ o₂ o₃ o₄ h room e₁ e₂ e₃ e₄ =
    let fields = page_fields n P in
    let two : o₂ ≡ sets out 0 (front d) =
    e₂ ∙ ap (λ (o : List ℕ). sets o 2 (device_field d)) e₁ ∙ sets_then out 0 start (device_field d) 2 refl in
    let three : o₃ ≡ sets out 0 (front d ++ fields) =
    e₃ ∙ ap (λ (o : List ℕ). sets o 9 fields) two ∙ sets_then out 0 (front d) fields 9 (omega (arith, length_front d)) in
    let four : o₄ ≡ sets out 0 (front d ++ fields ++ end_field) =
    e₄ ∙ ap₂ (λ (o f : List ℕ). sets o (9 + 259 * n) f) three (sym (field_empty 0x7F))
    ∙ sets_then out 0 (front d ++ fields) end_field (9 + 259 * n) (omega (arith, length_before d n P (omega arith))) in
    four ∙ ap (sets out 0) (sym (file_of_lem d n P h)) ∙ sets_at_start out (file_of d P) (omega (arith, length_file d n P h))

pub returns-then-pages-ne0 : goal.returns-then-pages-ne0
returns-then-pages-ne0 c =
    let a = c.args in
    let wrong : (¬ (length a.pages.now % 256 ≡ 0)) ⊎ (256 * 64 < length a.pages.now) =
    elim c.then-pages-ne0.branch [
      | then-pages-ne0-via-then-pages-ne0 w ↦ inl w.if-pages-ne0.true
      | then-pages-ne0-via-else-pages-ne0+then-pages w ↦ inr (omega (arith, w.if-pages.true))
    ] in
    rw ((write_file_13 a.device a.pages.now a.out.now 0).1 (wrong, refl)) (record { answer = refl; bytes = refl })

pub returns-then-out-end : goal.returns-then-out-end
returns-then-out-end c =
    let a = c.args in
    let p = a.pages.now in
    let e : length p ≡ 256 * (length p / 256) = omega arith in
    rw ((write_file_3 a.device p a.out.now 0).1 ((c.if-pages-ne0.false, omega (arith, c.if-pages.false)), omega (arith, length_file a.device (length p / 256) p e), refl)) (record { answer = refl; bytes = refl })

pub returns : goal.returns
returns c =
    let a = c.args in
    let p = a.pages.now in
    let n = length p / 256 in
    let e : length p ≡ 256 * n = omega arith in
    let size : 9 + 259 * n + 3 ≡ length (file_of a.device p) = omega (arith, length_file a.device n p e) in
    rw ((write_file a.device p a.out.now (9 + 259 * n + 3)).1 ((c.if-pages-ne0.false, omega (arith, c.if-pages.false)), omega (arith, size), size)) (record {
      answer = refl;
      bytes = parts a.device n p a.out.now _ _ _ _ e (omega arith) c.put_start.ensures c.put_device.ensures c.put_pages.ensures c.put_head.ensures;
    })
