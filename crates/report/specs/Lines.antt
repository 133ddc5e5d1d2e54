-- The line of a page (document 01, "The listing program"), as bytes.
-- Assumes nothing.
use Rattle.std.specs.Prelude.{List, ◌++◌, ℕ}
use Rattle.text.specs.Text.{ascii, decimal}
use Rattle.report.specs.declared.Kind.{Kind}
use Rattle.report.specs.declared.Kind.TheVariants.{Blank, First, Filled, Second, Bad}

-- the kind and the number in a line
abbrev pub name_of : Kind → List ℕ
name_of Blank = ascii "blank"
name_of (First n) = ascii "first"
name_of (Filled n) = ascii "filled"
name_of (Second n) = ascii "second"
name_of (Bad n) = ascii "bad"

abbrev pub number_of : Kind → ℕ
number_of Blank = 0
number_of (First n) = n
number_of (Filled n) = n
number_of (Second n) = n
number_of (Bad n) = n

-- the kind between its two spaces
abbrev pub middle_of : Kind → List ℕ
middle_of kind = ascii " " ++ name_of kind ++ ascii " "

-- "page index from 0, a space, the kind, a space, a number, a line feed"
unfoldable pub line_of : ℕ → Kind → List ℕ
line_of index kind = decimal index ++ middle_of kind ++ decimal (number_of kind) ++ ascii "\n"
