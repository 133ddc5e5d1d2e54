-- Every answer of every entry can be taken apart: no result and no index runs into the refusal's number, and the two parts of the word
-- fill's result, the word and the pulses, and of read file's, the device number and the pages, can be told apart. proofs/Claims.antt proves
-- it.
-- Assumes nothing.
use Rattle.std.specs.Prelude.{List, ℕ}
use Rattle.cells.specs.Bytes.{Bytes}
use Rattle.answer.specs.Layout.{Faithful, FaithfulParts}
use Rattle.word.specs.Answer.{encode_answer, decode_answer, fill_answer, capacity_answer}
use Rattle.page.specs.Answer.{write_first_answer, read_first_answer}
use Rattle.filled.specs.Answer.{fill_page_answer, page_capacity_answer}
use Rattle.second.specs.Answer.{write_second_answer, read_second_answer}
use Rattle.inspect.specs.Answer.{write_inspect_answer, read_inspect_answer}
use Rattle.block.specs.Answer.{place_answer, collect_answer}
use Rattle.transfer.specs.Answer.{write_file_answer}
use Rattle.receive.specs.Read.{read_file_answer}

-- for every argument of each word operation
pub record WordAnswersFaithful : Type 0 where
  pub encode : (value : ℕ) → Faithful (encode_answer value)
  pub decode : (word : ℕ) → Faithful (decode_answer word)
  pub fill : (word : ℕ) → FaithfulParts 48 (fill_answer word)
  pub capacity : (word : ℕ) → Faithful (capacity_answer word)

-- and for every page, record and output; for every device number, all pages and every output; for every file of bytes and every output; for
-- every block, all marks, every record and every target
pub record PageAnswersFaithful : Type 0 where
  pub write_first : (P D : List ℕ) → Faithful (write_first_answer P D)
  pub read_first : (P out : List ℕ) → Faithful (read_first_answer P out)
  pub page_capacity : (P : List ℕ) → Faithful (page_capacity_answer P)
  pub fill_page : (P : List ℕ) → Faithful (fill_page_answer P)
  pub write_second : (P R : List ℕ) → Faithful (write_second_answer P R)
  pub read_second : (P out : List ℕ) → Faithful (read_second_answer P out)
  pub write_inspect : (P R : List ℕ) → Faithful (write_inspect_answer P R)
  pub read_inspect : (P out : List ℕ) → Faithful (read_inspect_answer P out)
  pub write_file : (d : ℕ) (P out : List ℕ) → Faithful (write_file_answer d P out)
  pub read_file : (file out : List ℕ) → Bytes file → FaithfulParts 32 (read_file_answer file out)
  pub place_record : (B R : List ℕ) (marks : ℕ) → Faithful (place_answer B marks R)
  pub collect_block : (S target : List ℕ) (keep : ℕ) → Faithful (collect_answer S keep target)
