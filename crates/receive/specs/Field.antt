-- One field of a transfer file (document 02, Changes 1 and 10): what it is by its tag, where it may stand, and how long it may be.
-- Assumes nothing.
use Rattle.std.specs.Prelude.{Bool, true, false, cond, ◌&&◌, List, ℕ, ◌+◌, ◌*◌, eqb, leb, take, drop, get_or}
use Rattle.transfer.specs.File.{device_tag, page_tag, end_tag, first_passed_tag, last_passed_tag, device_bytes, page_bytes, most_pages}

-- "A field is a device number, a page, the end, or one to be passed over"; with any other tag it is unknown
pub data Sort : Type 0 where
  device : Sort
  page : Sort
  end : Sort
  passed_over : Sort
  unknown : Sort

-- by the tag
unfoldable pub sort_of : ℕ → Sort
sort_of tag =
    cond (eqb tag device_tag) device
    (cond (eqb tag page_tag) page (cond (eqb tag end_tag) end (cond (leb first_passed_tag tag && leb tag last_passed_tag) passed_over unknown)))

abbrev pub is_unknown : Sort → Bool
is_unknown unknown = true
is_unknown device = false
is_unknown page = false
is_unknown end = false
is_unknown passed_over = false

-- its place in the sequence, after s fields that were not passed over: "The device number is the first field not passed over", then the
-- pages and the end, and "a 65th page has none"
unfoldable pub in_place : Sort → ℕ → Bool
in_place device s = eqb s 0
in_place page s = leb 1 s && leb s most_pages
in_place end s = leb 1 s
in_place passed_over s = true
in_place unknown s = false

-- the lengths that it may have, from this one to that: "Tags 40 to 6F (hexadecimal) of any length are passed over"
unfoldable pub least : Sort → ℕ
least device = device_bytes
least page = page_bytes
least end = 0
least passed_over = 0
least unknown = 0

unfoldable pub most : Sort → ℕ
most device = device_bytes
most page = page_bytes
most end = 0
most passed_over = 65535
most unknown = 0

-- of bytes that begin with a field: its sort, the length that its head tells, its contents, and what follows it
abbrev pub sort_in : List ℕ → Sort
sort_in f = sort_of (get_or f 0 0)

abbrev pub length_in : List ℕ → ℕ
length_in f = 256 * get_or f 1 0 + get_or f 2 0

abbrev pub contents_in : List ℕ → List ℕ
contents_in f = take (length_in f) (drop 3 f)

abbrev pub behind : List ℕ → List ℕ
behind f = drop (3 + length_in f) f
