-- `window::window` meets its contract: eight bytes are four and the four after them. Assumes nothing.
use native.Mathlib.Omega.{arith}
use lib.ListN.{drop}
use Rattle.cells.proofs.Runs.{window_lt, window_join}
use Rattle.window.proofs.window.Goals as goal

pub overflow_mul-result : goal.overflow_mul-result
overflow_mul-result c =
    let a = c.args in
    omega (arith, c.four_bytes.ensures, window_lt (drop a.k a.page.now) 4 4 (omega arith))

pub overflow_add-result : goal.overflow_add-result
overflow_add-result c =
    let a = c.args in
    omega (
      arith,
      c.four_bytes.ensures,
      c.four_bytes-2.ensures,
      window_join a.page.now a.k 4 4 (omega arith),
      window_lt (drop a.k a.page.now) 8 8 (omega arith),
    )

pub returns : goal.returns
returns c =
    let a = c.args in
    omega (arith, c.four_bytes.ensures, c.four_bytes-2.ensures, window_join a.page.now a.k 4 4 (omega arith))
