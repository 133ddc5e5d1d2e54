-- The one layout for C: an answer as a number of 64 bits. Bits 56 to 63 are the refusal's number, 0 for none; bits 0 to 55 are the
-- result, or the refusal's index. A result of two parts has the first in its low k bits, the second above them.
-- Assumes nothing.
use Rattle.std.specs.Prelude.{List, [], ◌∷◌, ◌≡◌, ℕ, ◌+◌, ◌-◌, ◌*◌, ◌/◌, ◌%◌, ◌^◌, ◌<◌}
use Rattle.answer.specs.Answer.{AnswerOf, Answer, result, refusal, Check, refuse}

abbrev pub packed : Answer → ℕ
packed (result x) = x
packed (refusal n i) = n * 2 ^ 56 + i

-- an answer's refusal number, 0 for none, and its result or index
abbrev pub number_of : Answer → ℕ
number_of (result x) = 0
number_of (refusal n i) = n

abbrev pub value_of : Answer → ℕ
value_of (result x) = x
value_of (refusal n i) = i

-- Taking the two parts out of a packed answer, as the header's functions do, gives them back: no result runs into the refusal's number.
pub record Faithful (a : Answer) : Type 0 where
  pub number : packed a / 2 ^ 56 ≡ number_of a
  pub value : packed a % 2 ^ 56 ≡ value_of a

-- an answer with a result of two parts as one with a result of one number
abbrev pub joined : ℕ → AnswerOf (ℕ × ℕ) → Answer
joined k (result p) = result (p.0 + p.1 * 2 ^ k)
joined k (refusal n i) = refusal n i

-- Such an answer can be taken apart as well, and so can its result: the two parts, taken out of the packed answer as the header's functions
-- do, are those that were put in.
pub record FaithfulParts (k : ℕ) (a : AnswerOf (ℕ × ℕ)) : Type 0 where
  pub whole : Faithful (joined k a)
  pub low : (x y : ℕ) → a ≡ result (x, y) → packed (joined k a) % 2 ^ k ≡ x
  pub high : (x y : ℕ) → a ≡ result (x, y) → packed (joined k a) / 2 ^ k % 2 ^ (56 - k) ≡ y

-- no index of a check reaches the number's bits
abbrev pub Small : List Check → Type 0
Small [] = Unit {0}
Small (refuse b n i ∷ cs) = (i < 2 ^ 56) × Small cs
