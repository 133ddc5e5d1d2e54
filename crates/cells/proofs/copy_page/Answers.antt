-- `cells::copy_page` meets its contract: after j turns the first j bytes are stored. Assumes nothing.
use mathlib.Core.List.{List}
use mathlib.Core.Path.{◌≡◌, sym, ap, ap₂, ◌∙◌}
use Prim.Native.Nat.{ℕ, ◌+◌}
use native.Mathlib.Omega.{arith}
use lib.ListN.{length, take, drop, set, get_or, length-set, length-drop}
use lib.Seq.{sets, take-take, length-take-le, get_or-take, get_or-drop}
use Rattle.cells.proofs.Storing.{sets_turn}
use Rattle.cells.proofs.copy_page.Goals as goal

pub loop-j-preserved : goal.loop-j-preserved
loop-j-preserved c =
    let a = c.args in
    let l = c.loop-j in
    let s = take 256 (drop a.from a.pages.now) in
    let n : length s ≡ 256 = length-take-le 256 (drop a.from a.pages.now) (omega (arith, length-drop a.from a.pages.now)) in
    let b : get_or a.pages.now (a.from + l.j) 0 ≡ get_or s l.j 0 =
    sym (get_or-take 256 (drop a.from a.pages.now) l.j 0 (omega arith) ∙ get_or-drop a.from a.pages.now l.j 0) in (
      omega arith,
      ap₂ (λ (o : List ℕ) (x : ℕ). set o (a.k + l.j) x) l.invariant.1 b ∙ sets_turn a.out.now a.k s l.j (omega arith),
      simp length-set l.invariant.2,
    )

pub returns : goal.returns
returns c =
    let a = c.args in
    let l = c.loop-j in
    let e : l.j ≡ 256 = omega arith in
    l.invariant.1
    ∙ ap (λ (j : ℕ). sets a.out.now a.k (take j (take 256 (drop a.from a.pages.now)))) e
    ∙ ap (sets a.out.now a.k) (take-take 256 256 (drop a.from a.pages.now) (omega arith))
