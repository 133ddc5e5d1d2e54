-- The reader's answer can be taken apart: the device number has 32 bits, the number of pages goes above them, and no refusal has an index.
-- Assumes nothing.
use mathlib.Core.Bool.{Bool, true, false}
use mathlib.Core.List.{List, [], ◌∷◌}
use mathlib.Core.Path.{◌≡◌, refl, ap, ◌∙◌}
use Prim.Native.Nat.{ℕ, ◌^◌, ◌≤◌, ◌<◌}
use native.Mathlib.Omega.{arith}
use borrow.Author.Tests.{eqb-true, eqb-false}
use lib.Dec.{eqb}
use Rattle.cells.specs.Bytes.{Bytes}
use Rattle.answer.specs.Answer.{AnswerOf, result, refusal, refuse, answer}
use Rattle.answer.specs.Layout.{FaithfulParts}
use Rattle.answer.proofs.Apart.{parts_apart}
use Rattle.receive.specs.Read.{read_file_answer}
use Rattle.receive.proofs.Rules.{bounded}
use Rattle.receive.proofs.Answers.{read_file, read_file_3, read_file_broken}

-- no refusal has an index
no_index : (file out : List ℕ) (n k : ℕ) → Bytes file → read_file_answer file out ≡ refusal n k → k ≡ 0
no_index file out n k b e = go (eqb n 3) refl
  where
    go : (t : Bool) → eqb n 3 ≡ t → k ≡ 0
    go true q = ((read_file_3 file out b k).0 (e ∙ ap (λ (m : ℕ). refusal m k) (eqb-true n 3 q))).1.1.2
    go false q = ((read_file_broken file out b n k (eqb-false n 3 q)).0 e).1

pub read_parts : (file out : List ℕ) → Bytes file → FaithfulParts 32 (read_file_answer file out)
unfolding answer
read_parts file out b = go (read_file_answer file out) refl
  where
    go : (a : AnswerOf (ℕ × ℕ)) → read_file_answer file out ≡ a → FaithfulParts 32 a
    go (result p) e =
        let h = (read_file file out b p.0 p.1).0 e in
        let w = bounded file p.0 h.0 h.1.0 in
        whole p w.0 (omega (arith, w.1.1, h.1.1))
      where
        whole : (q : ℕ × ℕ) → q.0 < 2 ^ 32 → q.1 ≤ 64 → FaithfulParts 32 (result q)
        whole q d n = parts_apart 32 [] q.0 q.1 (omega arith) tt (λ t. (d, omega arith))
    go (refusal n k) e = none n k (no_index file out n k b e)
      where
        none : (m j : ℕ) → j ≡ 0 → FaithfulParts 32 (refusal m j)
        none m j z = parts_apart 32 (refuse true m j ∷ []) 0 0 (omega arith) (omega arith, tt) (λ t. (omega arith, omega arith))
