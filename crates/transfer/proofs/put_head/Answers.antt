-- `transfer::put_head` meets its contract: its three stores are the head's three bytes. Assumes nothing.
use mathlib.Core.List.{List}
use mathlib.Core.Path.{◌≡◌, refl, ap, ◌∙◌}
use Prim.Native.Nat.{ℕ, suc, ◌+◌, ◌/◌, ◌%◌}
use native.Mathlib.Numerals.{add-one}
use native.Mathlib.Omega.{arith}
use lib.ListN.{get_or}
use Rattle.transfer.proofs.Fields.{head_bytes}
use Rattle.transfer.proofs.put_head.Goals as goal

pub returns : goal.returns
returns c =
    let a = c.args in
    let two : a.k + 2 ≡ suc (suc a.k) = omega arith in
    let high : get_or c.to_be_bytes.result 0 0 ≡ a.n / 256 = ap (λ (l : List ℕ). get_or l 0 0) c.to_be_bytes.ensures ∙ omega (arith, c.ranges.n) in
    let low : get_or c.to_be_bytes.result 1 0 ≡ a.n % 256 = ap (λ (l : List ℕ). get_or l 1 0) c.to_be_bytes.ensures ∙ omega arith in
    rw (high, low, add-one a.k, two, head_bytes a.tag a.n (omega (arith, c.ranges.n))) refl
