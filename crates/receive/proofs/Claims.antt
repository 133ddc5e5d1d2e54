-- The claims of specs/Claims.antt.
-- Assumes nothing.
use mathlib.Core.List.{List, ◌++◌}
use mathlib.Core.Path.{◌≡◌, refl, sym, ap, ◌∙◌, subst}
use Prim.Native.Nat.{ℕ, ◌/◌, ◌^◌, ◌≤◌, ◌<◌}
use native.Mathlib.Omega.{arith}
use lib.ListN.{length, take, drop}
use lib.Seq.{take_at}
use Rattle.cells.specs.Bytes.{at_start}
use Rattle.answer.specs.Answer.{result}
use Rattle.answer.proofs.Chains.{refused_leaves}
use Rattle.transfer.specs.File.{start, field, file_of}
use Rattle.transfer.specs.Answer.{write_file_answer, write_file_leaves}
use Rattle.transfer.proofs.Claims.{file_writing}
use Rattle.receive.specs.Read.{file_told, pages_told, read_file_answer, read_file_leaves}
use Rattle.receive.specs.Claims.{FileRules, FileReading}
use Rattle.receive.proofs.Faults.{passes}
use Rattle.receive.proofs.Rules.{one_content, bounded, written, one_fault, numbers, either, not_both}
use Rattle.receive.proofs.Answers.{holds_accepted, holds_leaves, read_file, read_file_3, read_file_broken, read_file_numbers}

pub file_rules : FileRules
file_rules = record {
  one_content = one_content;
  bounded = bounded;
  written = written;
  one_fault = one_fault;
  numbers = numbers;
  either = either;
  not_both = not_both;
}

comes_back : (d v : ℕ) (P room out : List ℕ) → d < 2 ^ 32 → write_file_answer d P room ≡ result v → length P ≤ length out
    → (read_file_answer (take v (write_file_leaves d P room)) out ≡ result (d, length P / 256))
    × (read_file_leaves (take v (write_file_leaves d P room)) out ≡ P ++ drop (length P) out)
comes_back d v P room out b e l =
    let a = (file_writing.accepted d P room v).0 e in
    let f : file_of d P ≡ take v (write_file_leaves d P room) =
    sym (ap (take v) (file_writing.accepted_leaves d P room v e) ∙ take_at (file_of d P) (drop (length (file_of d P)) room) v (sym a.2)) in
    let h = written d P b a.0 in
    subst (λ (file : List ℕ). (read_file_answer file out ≡ result (d, length P / 256)) × (read_file_leaves file out ≡ P ++ drop (length P) out)) f
    (holds_accepted (file_of d P) out d P h l, holds_leaves (file_of d P) out d P h l)

-- files that tell the same are answered alike
alike : (f g out : List ℕ) → file_told f ≡ file_told g → (read_file_answer f out ≡ read_file_answer g out) × (read_file_leaves f out ≡ read_file_leaves g out)
unfolding read_file_answer
alike f g out e = rw e (refl, refl)

pub file_reading : FileReading
file_reading = record {
  accepted = λ file out d n b. read_file file out b d n;
  refused_14 = λ file out k b. read_file_broken file out b 14 k (λ q. omega arith);
  refused_15 = λ file out k b. read_file_broken file out b 15 k (λ q. omega arith);
  refused_16 = λ file out k b. read_file_broken file out b 16 k (λ q. omega arith);
  refused_3 = λ file out k b. read_file_3 file out b k;
  no_other = λ file out b. read_file_numbers file out b;
  refused_leaves = λ file out m k e. refused_leaves (read_file_answer file out) out (at_start (pages_told (file_told file)) out) m k e;
  accepted_leaves = holds_leaves;
  comes_back = comes_back;
  passed_over = λ s tag x c g out f w. alike (start ++ (x ++ (field tag c ++ g))) (start ++ (x ++ g)) out (passes tag c g f w);
}
