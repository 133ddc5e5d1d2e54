-- `text::put_decimal` meets its contract: by its own for a tenth of the number, and the last digit. Assumes nothing.
use mathlib.Core.List.{List, [], ◌∷◌}
use mathlib.Core.Path.{◌≡◌, sym, ap, ◌∙◌}
use Prim.Native.Nat.{ℕ, ◌+◌, ◌/◌, ◌%◌, ◌<◌}
use native.Mathlib.Omega.{arith}
use lib.ListN.{length, set}
use lib.Seq.{sets}
use Rattle.cells.proofs.Storing.{sets_then}
use Rattle.text.specs.Text.{decimal}
use Rattle.text.proofs.Decimals.{decimal_below, decimal_from, decimal_longer}
use Rattle.text.proofs.+put_decimal.Goals as goal

below : (n : ℕ) → n < 10 → length (decimal n) ≡ 1
below n h = ap length (decimal_below n h)

pub bounds-line-at : goal.bounds-line-at
bounds-line-at t c = omega (arith, c.requires, below c.args.n c.if-n-lt10.true)

pub returns-then-n-lt10 : goal.returns-then-n-lt10
returns-then-n-lt10 t c =
    let a = c.args in
    let e = decimal_below a.n c.if-n-lt10.true in
    record { place = ap (λ (l : List ℕ). a.at + length l) (sym e); bytes = ap (sets a.line.now a.at) (sym e) }

pub put_decimal-end-requires : goal.put_decimal-end-requires
put_decimal-end-requires t c = omega (arith, c.requires, decimal_longer c.args.n c.if-n-lt10.false)

pub bounds-line-end : goal.bounds-line-end
bounds-line-end t c = omega (arith, c.requires, c.put_decimal-end.ensures.place, decimal_longer c.args.n c.if-n-lt10.false)

pub overflow_add-result-2 : goal.overflow_add-result-2
overflow_add-result-2 t c = omega (arith, c.requires, c.put_decimal-end.ensures.place, decimal_longer c.args.n c.if-n-lt10.false)

pub returns : goal.returns
returns t c =
    let a = c.args in
    let h = c.if-n-lt10.false in
    let e = c.put_decimal-end.ensures in
    record {
      place = omega (arith, e.place, decimal_longer a.n h);
      bytes = ap (λ (l : List ℕ). set l c.put_decimal-end.result (48 + a.n % 10)) e.bytes
          ∙ sets_then a.line.now a.at (decimal (a.n / 10)) ((48 + a.n % 10) ∷ []) c.put_decimal-end.result e.place
          ∙ ap (sets a.line.now a.at) (sym (decimal_from a.n h));
    }
