-- The kind of a piece of input (document 01, "The listing program"; document 02, Changes 2 and 7). A piece is its list of bytes.
-- Assumes nothing.
use Rattle.std.specs.Prelude.{cond, not, List, ℕ, eqb, length}
use Rattle.answer.specs.Answer.{Answer, result, refusal}
use Rattle.rows.specs.Page.{state, state_first, state_filled, state_second, state_inspect, is_blank, blank_of}
use Rattle.filled.specs.Answer.{page_capacity_answer}
use Rattle.second.specs.Answer.{read_second_answer}
use Rattle.inspect.specs.Answer.{read_inspect_answer}
use Rattle.report.specs.declared.Kind.{Kind}
use Rattle.report.specs.declared.Kind.TheVariants.{Blank, First, Filled, Second, Bad}

-- a result gives the kind its number; a refusal makes the page bad, with the refusal's number
abbrev pub kind_by : (ℕ → Kind) → Answer → Kind
kind_by kind (result n) = kind n
kind_by kind (refusal n i) = Bad n

-- in state 00: a blank page, or one with another byte set
abbrev pub blank_kind : List ℕ → Kind
blank_kind piece = cond (is_blank 256 piece) Blank (Bad 4)

-- `first` and `filled` have the capacity in bits, `second` the length in bytes: what page capacity and the reader of the page's code answer, the
-- reader given an output that every record fits, read second in state 07 and read Inspect in state 09. `bad` has 1 for a piece that is not 256
-- bytes, 4 for state 00 with another byte set, 5 for an unknown state, else the number by which page capacity or that reader refuses
unfoldable pub kind_of : List ℕ → Kind
kind_of piece =
    cond (not (eqb (length piece) 256)) (Bad 1)
    (cond (eqb (state piece) 0) (blank_kind piece)
    (cond (eqb (state piece) state_first) (kind_by First (page_capacity_answer piece))
    (cond (eqb (state piece) state_filled) (kind_by Filled (page_capacity_answer piece))
    (cond (eqb (state piece) state_second) (kind_by Second (read_second_answer piece (blank_of 126)))
    (cond (eqb (state piece) state_inspect) (kind_by Second (read_inspect_answer piece (blank_of 247)))
    (Bad 5))))))
