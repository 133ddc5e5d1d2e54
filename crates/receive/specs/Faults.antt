-- What is wrong with a file that is refused by 14, 15 or 16 (document 02, Change 10), and where: the first field at which it is not in
-- order.
-- Assumes nothing.
use Rattle.std.specs.Prelude.{true, false, List, [], ◌++◌, ◌⊎◌, ◌≡◌, ℕ, ◌+◌, ◌≤◌, ◌<◌, T, length}
use Rattle.transfer.specs.File.{start, end_field}
use Rattle.receive.specs.Grammar.{Fields}
use Rattle.receive.specs.Field.{is_unknown, in_place, least, most, sort_in, length_in}

-- bytes that begin with a known tag in its place, after s fields that were not passed over
pub record InPlace (s : ℕ) (g : List ℕ) : Type 0 where
  pub some : 0 < length g
  pub known : is_unknown (sort_in g) ≡ false
  pub place : T (in_place (sort_in g) s)

-- Fault n s g: after s fields that were not passed over, g does not begin with a field that is in order, and n is the refusal's number; or
-- it begins with the end field, and bytes follow. "Within a field the tag is judged first, then its place in the sequence, .. then its
-- length, then whether its contents are all there."
pub data Fault : ℕ → ℕ → List ℕ → Type 0 where
  -- "a file that ends .. before tag 7F"
  nothing : {s : ℕ} → Fault 14 s []
  -- "another tag"
  other_tag : {s : ℕ} {g : List ℕ} → 0 < length g → is_unknown (sort_in g) ≡ true → Fault 15 s g
  -- "a field out of sequence or a 65th page"
  no_place : {s : ℕ} {g : List ℕ} → 0 < length g → is_unknown (sort_in g) ≡ false → in_place (sort_in g) s ≡ false → Fault 15 s g
  -- "a file that ends inside a field": before the end of its length
  no_length : {s : ℕ} {g : List ℕ} → InPlace s g → length g < 3 → Fault 14 s g
  -- "a wrong length"
  wrong_length : {s : ℕ} {g : List ℕ} → InPlace s g → 3 ≤ length g → (length_in g < least (sort_in g)) ⊎ (most (sort_in g) < length_in g)
      → Fault 15 s g
  -- "a file that ends inside a field": before the end of its contents
  no_contents : {s : ℕ} {g : List ℕ} → InPlace s g → 3 ≤ length g → least (sort_in g) ≤ length_in g → length_in g ≤ most (sort_in g)
      → length g < 3 + length_in g → Fault 14 s g
  -- "bytes after the end field"
  trailing : {s : ℕ} (r : List ℕ) → 1 ≤ s → 0 < length r → Fault 16 s (end_field ++ r)

-- a file that is refused by n: "a wrong start", or fields in order and then a fault
pub data Broken : ℕ → List ℕ → Type 0 where
  wrong_start : {file : List ℕ} → ((f : List ℕ) → file ≡ start ++ f → ⊥) → Broken 14 file
  at_field : {n s : ℕ} {x g : List ℕ} → Fields s x → Fault n s g → Broken n (start ++ (x ++ g))
