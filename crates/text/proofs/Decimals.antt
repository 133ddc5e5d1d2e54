-- Numbers in decimal: the last digit apart from the others, how many there are, and what they write. Assumes nothing.
use mathlib.Core.Bool.{Bool, true, false}
use mathlib.Core.List.{List, [], ◌∷◌, ◌++◌}
use mathlib.Core.Logic.{⊎_elim}
use mathlib.Core.Path.{◌≡◌, refl, sym, ap, ◌∙◌}
use Prim.Native.Nat.{ℕ, zero, suc, ◌+◌, ◌*◌, ◌-◌, ◌/◌, ◌%◌, ◌^◌, ◌≤◌, ◌<◌}
use native.Mathlib.Nat.{pow-suc}
use native.Mathlib.Omega.{arith}
use borrow.Author.Tests.{ltb-true, ltb-false, lt-ltb, le-ltb}
use lib.Dec.{ltb}
use lib.IntN.{ℤ, pos, negsuc}
use lib.ListN.{length, get_or, length-append, get_or-append}
use lib.Seq.{get_or_at}
use mir.Syntax.{w64}
use mir.Val.{SFits}
use Rattle.cells.proofs.Tests.{lt_cases}
use Rattle.text.specs.Text.{ascii, digits, decimal, signed}
use Rattle.text.specs.Claims.{decimal_value}

-- a number below 10 is its digit
digits_below : (k n : ℕ) → n < 10 → digits k n ≡ (48 + n) ∷ []
unfolding digits
digits_below zero n h = ap (λ (d : ℕ). (48 + d) ∷ []) (omega (arith, h))
digits_below (suc k) n h = rw (lt-ltb n 10 h) refl

-- any other is the digits of a tenth of it, and the last
digits_from : (k n : ℕ) → 10 ≤ n → digits (suc k) n ≡ digits k (n / 10) ++ (48 + n % 10) ∷ []
unfolding digits
digits_from k n h = rw (le-ltb n 10 h) refl

-- no digit is left out where k is the number or more
digits_enough : (k m n : ℕ) → n ≤ k → n ≤ m → digits k n ≡ digits m n
digits_enough zero m n hk hm = digits_below zero n (omega arith) ∙ sym (digits_below m n (omega arith))
digits_enough (suc k) zero n hk hm = digits_below (suc k) n (omega arith) ∙ sym (digits_below zero n (omega arith))
digits_enough (suc k) (suc m) n hk hm = go (ltb n 10) refl (digits_enough k m (n / 10))
  where
    go : (b : Bool) → ltb n 10 ≡ b → (n / 10 ≤ k → n / 10 ≤ m → digits k (n / 10) ≡ digits m (n / 10)) → digits (suc k) n ≡ digits (suc m) n
    go true e r = digits_below (suc k) n (ltb-true n 10 e) ∙ sym (digits_below (suc m) n (ltb-true n 10 e))
    go false e r =
        let h = ltb-false n 10 e in
        digits_from k n h ∙ ap (λ (l : List ℕ). l ++ (48 + n % 10) ∷ []) (r (omega arith) (omega arith)) ∙ sym (digits_from m n h)

pub decimal_below : (n : ℕ) → n < 10 → decimal n ≡ (48 + n) ∷ []
unfolding decimal
decimal_below n h = digits_below n n h

pub decimal_from : (n : ℕ) → 10 ≤ n → decimal n ≡ decimal (n / 10) ++ (48 + n % 10) ∷ []
unfolding decimal
decimal_from zero h = absurd (omega arith)
decimal_from (suc k) h = digits_from k (suc k) h ∙ ap (λ (l : List ℕ). l ++ (48 + suc k % 10) ∷ []) (digits_enough k (suc k / 10) (suc k / 10) (omega arith) (omega arith))

pub decimal_longer : (n : ℕ) → 10 ≤ n → length (decimal n) ≡ length (decimal (n / 10)) + 1
decimal_longer n h = ap length (decimal_from n h) ∙ length-append (decimal (n / 10)) ((48 + n % 10) ∷ [])

-- a number below 10 to the power k + 1 has at most k + 1 digits
decimal_short : (k n : ℕ) → n < 10 ^ suc k → length (decimal n) ≤ suc k
decimal_short zero n h = rw (decimal_below n (omega (arith, h))) omega arith
decimal_short (suc k) n h = go (ltb n 10) refl (decimal_short k (n / 10))
  where
    go : (b : Bool) → ltb n 10 ≡ b → (n / 10 < 10 ^ suc k → length (decimal (n / 10)) ≤ suc k) → length (decimal n) ≤ suc (suc k)
    go true e r = rw (decimal_below n (ltb-true n 10 e)) omega arith
    go false e r = omega (arith, decimal_longer n (ltb-false n 10 e), r (omega (arith, h, pow-suc 10 (suc k))))

-- a number of 32 bits has at most 10 digits
pub decimal_32 : (n : ℕ) → n < 2 ^ 32 → length (decimal n) ≤ 10
decimal_32 n h = decimal_short 9 n (omega (arith, h))

-- a signed number of 64 bits has at most 19, and a minus
pub signed_64 : (z : ℤ) → SFits w64 z → length (signed z) ≤ 20
unfolding signed
signed_64 (pos n) f = let h = decimal_short 18 n (omega (arith, f.sfits)) in omega arith
signed_64 (negsuc n) f = let h = decimal_short 18 (suc n) (omega (arith, f.sfits)) in omega (arith, length-append (ascii "-") (decimal (suc n)))

-- ---- what the digits write

-- what holds of each number below 10, and of any other if it holds of a tenth of it, holds of all
module _ (C : ℕ → Type 0) (below : (n : ℕ) → n < 10 → C n) (from : (n : ℕ) → 10 ≤ n → C (n / 10) → C n) where
  -- of the numbers up to k
  up_to : (k n : ℕ) → n ≤ k → C n
  up_to zero n h = below n (omega arith)
  up_to (suc k) n h = go (ltb n 10) refl (up_to k (n / 10))
    where
      go : (b : Bool) → ltb n 10 ≡ b → (n / 10 ≤ k → C (n / 10)) → C n
      go true e r = below n (ltb-true n 10 e)
      go false e r = let t = ltb-false n 10 e in from n t (r (omega arith))

  -- of all
  by_tenths : (n : ℕ) → C n
  by_tenths n = up_to n n (omega arith)

-- a digit more is ten times the number, and the digit
value_snoc : (front : ℕ) (ds : List ℕ) (d : ℕ) → decimal_value front (ds ++ d ∷ []) ≡ decimal_value front ds * 10 + (d - 48)
unfolding decimal_value
value_snoc front [] d = refl
value_snoc front (x ∷ ds) d = value_snoc (front * 10 + (x - 48)) ds d

-- the digits of a number write it
pub decimal_value_lem : (n : ℕ) → decimal_value 0 (decimal n) ≡ n
unfolding decimal_value
decimal_value_lem =
    by_tenths (λ n. decimal_value 0 (decimal n) ≡ n)
    (λ n h. rw (decimal_below n h) omega arith)
    (λ n h r. rw (decimal_from n h) omega (arith, r, value_snoc 0 (decimal (n / 10)) (48 + n % 10)))

-- all are digits
abbrev Digits : List ℕ → Type 0
Digits ds = (i : ℕ) → i < length ds → (48 ≤ get_or ds i 0) × (get_or ds i 0 < 58)

-- a digit more
digits_snoc : (ds : List ℕ) (d : ℕ) → Digits ds → (48 ≤ d) × (d < 58) → Digits (ds ++ d ∷ [])
digits_snoc ds d r h i k =
    ⊎_elim (λ e. rw (get_or_at ds d [] 0 i (sym e)) h) (λ l. rw (get_or-append ds (d ∷ []) 0 i l) (r i l))
    (lt_cases (omega (arith, length-append ds (d ∷ []))))

-- a number is written in digits only
pub decimal_digit : (n : ℕ) → Digits (decimal n)
decimal_digit =
    by_tenths (λ n. Digits (decimal n))
    (λ n h. rw (decimal_below n h) (digits_snoc [] (48 + n) (λ i. omega arith) (omega arith)))
    (λ n h r. rw (decimal_from n h) (digits_snoc (decimal (n / 10)) (48 + n % 10) r (omega arith)))

-- at least one digit
pub decimal_some : (n : ℕ) → 0 < length (decimal n)
decimal_some =
    by_tenths (λ n. 0 < length (decimal n)) (λ n h. rw (decimal_below n h) omega arith) (λ n h r. omega (arith, decimal_longer n h))

-- the first is `0` for the number 0 only
pub decimal_first : (n : ℕ) → 0 < n → ¬ (get_or (decimal n) 0 0 ≡ 48)
decimal_first =
    by_tenths (λ n. 0 < n → ¬ (get_or (decimal n) 0 0 ≡ 48))
    (λ n h p. rw (decimal_below n h) omega arith)
    (λ n h r p.
    rw (decimal_from n h, get_or-append (decimal (n / 10)) ((48 + n % 10) ∷ []) 0 0 (decimal_some (n / 10))) (r (omega arith)))
