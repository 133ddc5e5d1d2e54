-- Which files are transfer files, and what they hold (document 02, Changes 1 and 10): the rules of a file, apart from any way of reading it.
-- Assumes nothing.
use Rattle.std.specs.Prelude.{List, [], ◌++◌, ◌≡◌, ℕ, suc, ◌^◌, ◌≤◌, ◌<◌, length}
use Rattle.transfer.specs.File.{start, first_passed_tag, last_passed_tag, page_tag, page_bytes, field, device_field, end_field, most_pages}

-- "Tags 40 to 6F (hexadecimal) of any length are passed over": a field with such a tag, its contents as long as two bytes can tell
pub record PassedOver (tag : ℕ) (contents : List ℕ) : Type 0 where
  pub from_40 : first_passed_tag ≤ tag
  pub to_6_f : tag ≤ last_passed_tag
  pub two_bytes : length contents < 2 ^ 16

-- After n f P: f is the fields after the device number up to the end field, at most n of them pages, and P is the bytes of those pages
pub data After : ℕ → List ℕ → List ℕ → Type 0 where
  ended : {n : ℕ} → After n end_field []
  paged : {n : ℕ} {f P : List ℕ} (page : List ℕ) → length page ≡ page_bytes → After n f P → After (suc n) (field page_tag page ++ f) (page ++ P)
  passed : {n : ℕ} {f P : List ℕ} (tag : ℕ) (contents : List ℕ) → PassedOver tag contents → After n f P → After n (field tag contents ++ f) P

-- Before f d P: f is all the fields of a file, d the device number and P the bytes of the pages.
-- "The device number is the first field not passed over."
pub data Before : List ℕ → ℕ → List ℕ → Type 0 where
  device : {f P : List ℕ} (d : ℕ) → d < 2 ^ 32 → After most_pages f P → Before (device_field d ++ f) d P
  passed : {f P : List ℕ} {d : ℕ} (tag : ℕ) (contents : List ℕ) → PassedOver tag contents → Before f d P → Before (field tag contents ++ f) d P

-- a file that holds the device number d and the pages P
pub data Holds : List ℕ → ℕ → List ℕ → Type 0 where
  holds : {f P : List ℕ} {d : ℕ} → Before f d P → Holds (start ++ f) d P

-- ---- how far a file is in order

-- Fields s x: x is whole fields, one after another, each in its place, and s of them are not passed over
pub data Fields : ℕ → List ℕ → Type 0 where
  none : Fields 0 []
  device : {x : List ℕ} (d : ℕ) → d < 2 ^ 32 → Fields 0 x → Fields 1 (x ++ device_field d)
  paged : {s : ℕ} {x : List ℕ} (page : List ℕ) → length page ≡ page_bytes → 1 ≤ s → s ≤ most_pages → Fields s x
      → Fields (suc s) (x ++ field page_tag page)
  passed : {s : ℕ} {x : List ℕ} (tag : ℕ) (contents : List ℕ) → PassedOver tag contents → Fields s x → Fields s (x ++ field tag contents)
