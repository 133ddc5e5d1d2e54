-- What is claimed of the transfer file's reader, for every file and every output. proofs/Claims.antt proves it.
-- Assumes nothing.
use Rattle.std.specs.Prelude.{List, [], ◌∷◌, ◌++◌, ◌↔◌, ◌⊎◌, ◌≡◌, ℕ, ◌*◌, ◌/◌, ◌^◌, ◌≤◌, ◌<◌, length, take, drop}
use Rattle.cells.specs.Bytes.{Bytes}
use Rattle.answer.specs.Answer.{result, refusal, RefusesBy}
use Rattle.transfer.specs.File.{start, field, file_of}
use Rattle.transfer.specs.Answer.{write_file_answer, write_file_leaves}
use Rattle.transfer.specs.Claims.{Carried}
use Rattle.receive.specs.Grammar.{PassedOver, Holds, Fields}
use Rattle.receive.specs.Faults.{Broken}
use Rattle.receive.specs.Read.{read_file_answer, read_file_leaves}

-- The rules of a file, apart from its reader. d and e are device numbers, P and Q the pages' bytes.
pub record FileRules : Type 0 where
  -- no file holds two contents
  pub one_content : (file : List ℕ) (d e : ℕ) (P Q : List ℕ) → Holds file d P → Holds file e Q → (d ≡ e) × (P ≡ Q)
  -- a file holds a device number of 32 bits, and 0 to 64 whole pages
  pub bounded : (file : List ℕ) (d : ℕ) (P : List ℕ) → Holds file d P → (d < 2 ^ 32) × Carried P
  -- the file that is written of a device number and pages holds these
  pub written : (d : ℕ) (P : List ℕ) → d < 2 ^ 32 → Carried P → Holds (file_of d P) d P
  -- "whichever is met first": the fault of a file is one
  pub one_fault : (file : List ℕ) (n m : ℕ) → Broken n file → Broken m file → n ≡ m
  -- and by one of three numbers
  pub numbers : (file : List ℕ) (n : ℕ) → Broken n file → (n ≡ 14) ⊎ ((n ≡ 15) ⊎ (n ≡ 16))
  -- a file of bytes holds something or has a fault
  pub either : (file : List ℕ) → Bytes file → ((d : ℕ) × ((P : List ℕ) × Holds file d P)) ⊎ ((n : ℕ) × Broken n file)
  -- and not both
  pub not_both : (file : List ℕ) (d n : ℕ) (P : List ℕ) → Holds file d P → Broken n file → ⊥

pub record FileReading : Type 0 where
  -- ---- what the reader answers, each just when; a file is a list of bytes

  -- accepted with the device number and n pages: the file is one of the grammar and holds these, and the output has room for them
  pub accepted : (file out : List ℕ) (d n : ℕ) → Bytes file → (read_file_answer file out ≡ result (d, n))
      ↔ ((P : List ℕ) × (Holds file d P × (length P ≡ 256 * n) × (length P ≤ length out)))
  -- 14, 15 and 16: a wrong start, or fields in order and then this fault
  pub refused_14 : (file out : List ℕ) (k : ℕ) → Bytes file → (read_file_answer file out ≡ refusal 14 k) ↔ (Broken 14 file × (k ≡ 0))
  pub refused_15 : (file out : List ℕ) (k : ℕ) → Bytes file → (read_file_answer file out ≡ refusal 15 k) ↔ (Broken 15 file × (k ≡ 0))
  pub refused_16 : (file out : List ℕ) (k : ℕ) → Bytes file → (read_file_answer file out ≡ refusal 16 k) ↔ (Broken 16 file × (k ≡ 0))
  -- 3: the file is one of the grammar, and the output is shorter than its pages
  pub refused_3 : (file out : List ℕ) (k : ℕ) → Bytes file → (read_file_answer file out ≡ refusal 3 k)
      ↔ ((d : ℕ) × ((P : List ℕ) × (Holds file d P × (length out < length P) × (k ≡ 0))))
  -- and no other number
  pub no_other : (file out : List ℕ) → Bytes file → RefusesBy (14 ∷ 15 ∷ 16 ∷ 3 ∷ []) (read_file_answer file out)
  -- ---- what it leaves in the output

  -- a refused call leaves the output as it was
  pub refused_leaves : (file out : List ℕ) (m k : ℕ) → read_file_answer file out ≡ refusal m k → read_file_leaves file out ≡ out
  -- an accepted one the pages that the file holds, and the output after them as it was
  pub accepted_leaves : (file out : List ℕ) (d : ℕ) (P : List ℕ) → Holds file d P → length P ≤ length out
      → read_file_leaves file out ≡ P ++ drop (length P) out
  -- ---- what goes in and comes back

  -- "What Change 1 writes must come back as the same pages in the same sequence, and the device number": the v bytes that the writer put
  -- into any room, read into any output that the pages fit
  pub comes_back : (d v : ℕ) (P room out : List ℕ) → d < 2 ^ 32 → write_file_answer d P room ≡ result v → length P ≤ length out
      → (read_file_answer (take v (write_file_leaves d P room)) out ≡ result (d, length P / 256))
      × (read_file_leaves (take v (write_file_leaves d P room)) out ≡ P ++ drop (length P) out)
  -- a field that is passed over, wherever fields are in order before it, changes neither the answer, refusals included, nor what is left,
  -- whatever follows
  pub passed_over : (s tag : ℕ) (x contents g out : List ℕ) → Fields s x → PassedOver tag contents
      → (read_file_answer (start ++ (x ++ (field tag contents ++ g))) out ≡ read_file_answer (start ++ (x ++ g)) out)
      × (read_file_leaves (start ++ (x ++ (field tag contents ++ g))) out ≡ read_file_leaves (start ++ (x ++ g)) out)
