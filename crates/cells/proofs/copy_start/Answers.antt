-- `cells::copy_start` meets its contract: after j turns the first 4 * j bytes are in. Assumes nothing.
use mathlib.Core.Path.{◌≡◌, refl, ap, ◌∙◌}
use Prim.Native.Nat.{ℕ, ◌+◌, ◌*◌, ◌/◌, ◌-◌}
use native.Mathlib.Omega.{arith}
use lib.ListN.{take}
use Rattle.cells.specs.Bytes.{Bytes, at_start}
use Rattle.cells.proofs.Copying.{copy_more, four_whole}
use Rattle.cells.proofs.copy_start.Goals as goal

pub loop-j-init : goal.loop-j-init
loop-j-init c =
    unfold at_start in (omega arith, refl, refl)

pub loop-j-preserved : goal.loop-j-preserved
loop-j-preserved c =
    let b : Bytes c.args.buffer.now = λ j. omega (arith, c.type_inv.buffer j) in
    let e : 4 * c.loop-j.j + 4 ≡ 4 * (c.loop-j.j + 1) = omega arith in (
      omega arith,
      c.put_bytes.auto.page ∙ c.loop-j.invariant.1,
      copy_more _ c.args.out.now _ _ (4 * c.loop-j.j) 4 _ _ b (omega arith) (omega arith) c.loop-j.invariant.2 c.four_bytes.ensures (four_whole _) c.put_bytes.ensures
          ∙ ap (λ (k : ℕ). at_start (take k c.args.buffer.now) c.args.out.now) e,
    )

pub returns : goal.returns
returns c =
    let n = c.args.n in
    let b : Bytes c.args.buffer.now = λ j. omega (arith, c.type_inv.buffer j) in
    let e : 4 * c.loop-j.j ≡ n / 4 * 4 = omega arith in
    let f : n / 4 * 4 + (n - n / 4 * 4) ≡ n = omega arith in
    copy_more _ c.args.out.now _ _ (n / 4 * 4) (n - n / 4 * 4) _ _ b (omega arith) (omega arith)
    (c.loop-j.invariant.2 ∙ ap (λ (k : ℕ). at_start (take k c.args.buffer.now) c.args.out.now) e) c.four_bytes-2.ensures refl c.put_bytes-2.ensures
    ∙ ap (λ (k : ℕ). at_start (take k c.args.buffer.now) c.args.out.now) f
