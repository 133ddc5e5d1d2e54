-- `window::copy_eights` meets its contract: after j turns the first 8 * j bytes are in. Assumes nothing.
use mathlib.Core.Path.{◌≡◌, refl, ap, ◌∙◌}
use Prim.Native.Nat.{ℕ, ◌+◌, ◌*◌}
use native.Mathlib.Omega.{arith}
use lib.ListN.{take}
use Rattle.cells.specs.Bytes.{Bytes, at_start}
use Rattle.window.proofs.Copying.{copy_eight}
use Rattle.window.proofs.copy_eights.Goals as goal

pub loop-j-init : goal.loop-j-init
loop-j-init c =
    unfold at_start in (omega arith, refl, refl)

pub loop-j-preserved : goal.loop-j-preserved
loop-j-preserved c =
    let b : Bytes c.args.from.now = λ j. omega (arith, c.type_inv.from j) in
    let e : 8 * c.loop-j.j + 8 ≡ 8 * (c.loop-j.j + 1) = omega arith in (
      omega arith,
      c.put_bytes.auto.page ∙ c.loop-j.invariant.1,
      copy_eight _ c.args.to.now _ _ (8 * c.loop-j.j) _ b (omega arith) c.loop-j.invariant.2 c.window.ensures c.put_bytes.ensures
          ∙ ap (λ (k : ℕ). at_start (take k c.args.from.now) c.args.to.now) e,
    )
