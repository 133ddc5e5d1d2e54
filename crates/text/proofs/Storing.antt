-- Texts stored one after another (`sets` of lib.Seq). Assumes nothing.
use mathlib.Core.List.{List, ◌++◌}
use mathlib.Core.Path.{◌≡◌, sym, ap, ap₂, ◌∙◌}
use Prim.Native.Nat.{ℕ, ◌+◌, ◌≤◌}
use native.Mathlib.Omega.{arith}
use lib.ListN.{length, take, drop, length-append}
use lib.Seq.{sets, sets-eq, length-sets, length-take-le, take_at}
use Rattle.cells.specs.Bytes.{at_start}
use Rattle.cells.proofs.Storing.{sets_append, sets_at_start}

-- a text stored at the start is what stands there
pub sets_taken : (out text : List ℕ) (k : ℕ) → k ≡ length text → k ≤ length out → take k (sets out 0 text) ≡ text
unfolding at_start
sets_taken out text k e h = ap (take k) (sets_at_start out text (omega arith)) ∙ take_at text (drop (length text) out) k (sym e)

-- a text is put into a line from byte `at` on, and r is the place after it
pub record Put (old : List ℕ) (at : ℕ) (text : List ℕ) (r : ℕ) (new : List ℕ) : Type 0 where
  pub place : r ≡ at + length text
  pub bytes : new ≡ sets old at text

-- one text after another
pub put_put : {old mid new : List ℕ} {at m r : ℕ} {a b : List ℕ} → Put old at a m mid → Put mid m b r new → Put old at (a ++ b) r new
put_put {old} {at = at} {a = a} {b = b} p q = record {
  place = omega (arith, p.place, q.place, length-append a b);
  bytes = q.bytes ∙ ap₂ (λ (l : List ℕ) (k : ℕ). sets l k b) p.bytes p.place ∙ sets_append old at a b;
}

-- a line keeps its length
pub put_length : {old new : List ℕ} {at r : ℕ} {text : List ℕ} → Put old at text r new → length new ≡ length old
put_length {old} {at = at} {text = text} p = ap length p.bytes ∙ length-sets old at text

-- a text put after what stands at the start
pub put_end : {old new front text : List ℕ} {at m r : ℕ} → Put old at text r new → m ≡ at → take m old ≡ front → m ≤ length old
    → length front + length text ≤ length old → take r new ≡ front ++ text
put_end {old} {front = front} {text = text} {at = at} {m = m} {r = r} p same e h room =
    let long : length front ≡ m = omega (arith, ap length e, length-take-le m old h) in
    let start : take at old ≡ front = ap (λ (k : ℕ). take k old) (sym same) ∙ e in
    ap (take r) (p.bytes ∙ sets-eq text old at (omega arith) ∙ ap (λ (l : List ℕ). l ++ text ++ drop (at + length text) old) start)
    ∙ take_at (front ++ text) (drop (at + length text) old) r (omega (arith, p.place, length-append front text))
