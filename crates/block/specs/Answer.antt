-- What placing a record in a block and collecting a block answer, and what they leave in their buffers (document 02, Change 11).
-- Assumes nothing.
use Rattle.std.specs.Prelude.{not, ◌||◌, List, [], ◌∷◌, ℕ}
use Rattle.cells.specs.Bytes.{zeros, at_start}
use Rattle.answer.specs.Answer.{Answer, Check, refuse, answer, after}
use Rattle.filled.specs.Answer.{fill_page_leaves}
use Rattle.second.specs.Answer.{write_second_leaves}
use Rattle.block.specs.Block.{block_pages, is_block, page_at, put_page, choice_of, is_chosen, index_of, kept_pages, kept_count}

-- ---- placing

-- "Both refuse 17 for any block, source or target, that is not 4,096 bytes; placing then refuses 18 exactly when no marked page that is not
-- passed over fits"
unfoldable pub place_checks : ℕ → List ℕ → ℕ → List ℕ → List Check
place_checks n block marks bs = refuse (not (is_block n block)) 17 0 ∷ refuse (not (is_chosen (choice_of n block marks bs))) 18 0 ∷ []

-- "and the answer is its index"
abbrev pub place_answer : List ℕ → ℕ → List ℕ → Answer
place_answer block marks bs = answer (place_checks block_pages block marks bs) (index_of (choice_of block_pages block marks bs))

-- a page after a record went there "by fill code": fill page, then write second
abbrev pub both_steps : List ℕ → List ℕ → List ℕ
both_steps page bs = write_second_leaves (fill_page_leaves page) bs

-- "A short record goes by fill code to" the chosen page, "and other pages keep every byte"
abbrev pub place_leaves : List ℕ → ℕ → List ℕ → List ℕ
place_leaves block marks bs =
    let i = index_of (choice_of block_pages block marks bs) in
    after (place_answer block marks bs) block (put_page block i (both_steps (page_at block i) bs))

-- ---- collecting

-- 17 for the source or the target, then "19 when a byte of the target is not 0"
unfoldable pub collect_checks : ℕ → List ℕ → List ℕ → List Check
collect_checks n source target = refuse (not (is_block n source) || not (is_block n target)) 17 0 ∷ refuse (not (zeros target)) 19 0 ∷ []

-- "The answer is the number kept."
abbrev pub collect_answer : List ℕ → ℕ → List ℕ → Answer
collect_answer source keep target = answer (collect_checks block_pages source target) (kept_count keep block_pages)

-- "Collecting copies the pages marked as kept, in their order, to the front of a blank second block; the remainder stays 0"
abbrev pub collect_leaves : List ℕ → ℕ → List ℕ → List ℕ
collect_leaves source keep target = after (collect_answer source keep target) target (at_start (kept_pages source keep block_pages) target)
