-- A block of pages (document 02, Change 11): the page that is chosen for a short record, and the pages that are collected. The definitions are
-- over the number of pages, and by document 01's page; the document's block is the number 16.
-- Assumes nothing.
use Rattle.std.specs.Prelude.{Bool, true, false, cond, ◌&&◌, List, [], ◌++◌, ℕ, zero, suc, ◌+◌, ◌*◌, eqb, leb, ltb, length, take, drop, Option, Some, None}
use Rattle.cells.specs.Cells.{bit}
use Rattle.answer.specs.Answer.{Answer, result, refusal, answer}
use Rattle.rows.specs.Page.{page256}
use Rattle.page.specs.Answer.{first_checks}
use Rattle.filled.specs.Answer.{room_first}
use Rattle.block.specs.declared.Chosen.{Chosen}

-- ---- pages of a block

-- "A block is 16 pages of 256 bytes."
abbrev pub block_pages : ℕ
block_pages = 16

abbrev pub page_bytes : ℕ
page_bytes = page256.size

-- the bytes are those of n pages
abbrev pub is_block : ℕ → List ℕ → Bool
is_block n block = eqb (length block) (page_bytes * n)

-- page i
abbrev pub page_at : List ℕ → ℕ → List ℕ
page_at block i = take page_bytes (drop (page_bytes * i) block)

-- a block with page i replaced: "other pages keep every byte"
unfoldable pub put_page : List ℕ → ℕ → List ℕ → List ℕ
put_page block i page = take (page_bytes * i) block ++ (page ++ drop (page_bytes * i + page_bytes) block)

-- "Marks are a number of 16 bits, the lowest bit for page 0."
abbrev pub marked : ℕ → ℕ → Bool
marked marks i = bit marks i

-- ---- choosing a page

-- what a page offers to a record: the bits of its capacity, or nothing where it is passed over
abbrev pub Offer : Type 0
Offer = Option ℕ

abbrev pub Room : ℕ → Offer
Room room = Some room

-- the page that is chosen among some: its index and its capacity, or none
abbrev pub Choice : Type 0
Choice = Option Chosen

abbrev pub Page : ℕ → ℕ → Choice
Page i room = Some (record { index = i; room = room })

abbrev pub Nothing : Choice
Nothing = None

-- "Marked pages that read first would refuse, given output enough, are passed over": by each of its refusals but 3. Another page offers its
-- capacity
abbrev pub offer_of : Answer → Offer
offer_of (result room) = Room room
offer_of (refusal n i) = None

-- "The caller marks the pages whose first record may be given up": page i offers what it does where it is marked, and nothing else
unfoldable pub offer_at : List ℕ → ℕ → ℕ → Offer
offer_at block marks i = cond (marked marks i) (offer_of (answer (first_checks page256 (page_at block i)) (room_first page256 (page_at block i)))) None

-- "A page fits when its capacity is at least 8 times the record's length."
abbrev pub fits : ℕ → ℕ → Bool
fits size room = leb (8 * size) room

-- "the smallest capacity that still fits, the lowest index among equals": of what was chosen among the pages before page i, and page i
unfoldable pub better : ℕ → Choice → Offer → ℕ → Choice
better size c None i = c
better size None (Some room) i = cond (fits size room) (Page i room) Nothing
better size (Some c) (Some room) i = cond (fits size room && ltb room c.room) (Page i room) (Some c)

-- the choice among the first n pages, for a record of so many bytes
unfoldable pub chosen : ℕ → (ℕ → Offer) → ℕ → Choice
chosen size offers zero = Nothing
chosen size offers (suc n) = better size (chosen size offers n) (offers n) n

abbrev pub choice_of : ℕ → List ℕ → ℕ → List ℕ → Choice
choice_of n block marks bs = chosen (length bs) (offer_at block marks) n

-- whether a page is chosen, and its index
abbrev pub is_chosen : Choice → Bool
is_chosen (Some c) = true
is_chosen None = false

abbrev pub index_of : Choice → ℕ
index_of (Some c) = c.index
index_of None = 0

-- ---- collecting pages

-- "the pages marked as kept, in their order", of the first n, and how many they are
unfoldable pub kept_pages : List ℕ → ℕ → ℕ → List ℕ
kept_pages source keep zero = []
kept_pages source keep (suc n) = kept_pages source keep n ++ cond (marked keep n) (page_at source n) []

unfoldable pub kept_count : ℕ → ℕ → ℕ
kept_count keep zero = 0
kept_count keep (suc n) = kept_count keep n + cond (marked keep n) 1 0
