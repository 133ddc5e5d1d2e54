-- An answer and how it comes about (document 01, "What each operation returns and refuses").
-- Assumes nothing.
use Rattle.std.specs.Prelude.{Bool, false, cond, ◌||◌, List, [], ◌∷◌, ◌≡◌, ℕ, Result, Ok, Err, T, eqb}
use Rattle.answer.specs.declared.Refusal.{Refusal}
use Rattle.answer.specs.declared.Refusal.TheVariants.{PageLength, DataLength, OutputLength, NotBlank, State, Header, Word, RecordLength, DataCells, HighBit, Neighbours, SumTooLarge, PagesLength, FileCut, FileField, FileTail, BlockLength, NoPage, TargetNotBlank}

-- "The answer is either the result named here or one refusal, never both." A refusal has its number and its index, 0 where it has none
pub data AnswerOf (A : Type 0) : Type 0 where
  result : A → AnswerOf A
  refusal : ℕ → ℕ → AnswerOf A

-- the result is one number, but for an operation that returns two
abbrev pub Answer : Type 0
Answer = AnswerOf ℕ

-- one check of an operation: the condition on which it refuses, the refusal's number and its index
pub data Check : Type 0 where
  refuse : Bool → ℕ → ℕ → Check

-- "The first refusal in the stated order is returned": of the checks in their order the first whose condition holds; where none does, the
-- result
unfoldable pub answer : {A : Type 0} → List Check → A → AnswerOf A
answer [] x = result x
answer (refuse b n i ∷ cs) x = cond b (refusal n i) (answer cs x)

-- "A refusal writes nothing": what a buffer holds afterwards, by the answer, from what it held and what an accepted call leaves
abbrev pub after : {A : Type 0} → AnswerOf A → List ℕ → List ℕ → List ℕ
after (result x) old new = new
after (refusal n i) old new = old

-- ---- the papers' number and index of each refusal, and the answer that a result of the code is

abbrev pub refusal_number : Refusal → ℕ
refusal_number PageLength = 1
refusal_number DataLength = 2
refusal_number OutputLength = 3
refusal_number NotBlank = 4
refusal_number State = 5
refusal_number Header = 6
refusal_number (Word i) = 7
refusal_number (RecordLength n) = 8
refusal_number DataCells = 9
refusal_number HighBit = 10
refusal_number Neighbours = 11
refusal_number SumTooLarge = 12
refusal_number PagesLength = 13
refusal_number FileCut = 14
refusal_number FileField = 15
refusal_number FileTail = 16
refusal_number BlockLength = 17
refusal_number NoPage = 18
refusal_number TargetNotBlank = 19

abbrev pub refusal_index : Refusal → ℕ
refusal_index (Word i) = i
refusal_index (RecordLength n) = n
refusal_index e = 0

-- the answer by what it is of a result: most are the result itself ...
abbrev pub answer_by : {A B : Type 0} → (A → B) → Result A Refusal → AnswerOf B
answer_by f (Ok x) = result (f x)
answer_by f (Err e) = refusal (refusal_number e) (refusal_index e)

abbrev pub answer_of : {A : Type 0} → Result A Refusal → AnswerOf A
answer_of r = answer_by (λ x. x) r

-- ... and "where no result is named, the result is 0"
abbrev pub done_of : Result (Unit {0}) Refusal → Answer
done_of r = answer_by (λ u. 0) r

-- ---- what is said of checks

-- no check's condition holds
abbrev pub None : List Check → Type 0
None [] = Unit {0}
None (refuse b n i ∷ cs) = (b ≡ false) × None cs

-- the numbers of checks
unfoldable pub numbers : List Check → List ℕ
numbers [] = []
numbers (refuse b n i ∷ cs) = n ∷ numbers cs

-- a number is one of these
unfoldable pub among : ℕ → List ℕ → Bool
among n [] = false
among n (m ∷ ms) = eqb n m || among n ms

-- an answer refuses by no other number than these
pub record RefusesBy {A : Type 0} (ns : List ℕ) (a : AnswerOf A) : Type 0 where
  pub listed : (n i : ℕ) → a ≡ refusal n i → T (among n ns)
