-- `block::offer_of` meets its contract. Assumes nothing.
use mathlib.Core.List.{List}
use mathlib.Core.Path.{◌≡◌, sym, ap, ◌∙◌}
use Prim.Native.Nat.{ℕ, ◌+◌, ◌-◌, ◌*◌}
use native.Mathlib.Nat.{add-zero}
use native.Mathlib.Omega.{arith}
use lib.ListN.{take, drop, get_or}
use lib.Seq.{get_or-take, get_or-drop}
use Rattle.std.specs.Prelude.{Result}
use Rattle.std.specs.Result.{result_ok}
use Rattle.answer.specs.declared.Refusal.{Refusal}
use Rattle.answer.specs.Answer.{answer_of}
use Rattle.filled.specs.Answer.{page_capacity_answer}
use Rattle.rows.specs.Page.{state}
use Rattle.block.specs.Block.{page_at, offer_of, offer_at}
use Rattle.block.proofs.Choosing.{ok_offers, not_marked, filled_passed, is_measured}
use Rattle.block.proofs.offer_of.Goals as goal

-- the state of page i, as read in the page and in the block
in_page : (block : List ℕ) (i : ℕ) → state (take (256 * i + 256 - 256 * i) (drop (256 * i) block)) ≡ state (page_at block i)
in_page block i = let n : 256 * i + 256 - 256 * i ≡ 256 = omega arith in rw n

in_block : (block : List ℕ) (i : ℕ) → get_or block (256 * i) 0 ≡ state (page_at block i)
in_block block i =
    let at : get_or block (256 * i + 0) 0 ≡ get_or block (256 * i) 0 = ap (λ (k : ℕ). get_or block k 0) (add-zero (256 * i)) in
    sym (get_or-take 256 (drop (256 * i) block) 0 0 (omega arith) ∙ get_or-drop (256 * i) block 0 0 ∙ at)

pub returns : goal.returns
returns c =
    let a = c.args in
    let s = in_page a.block.now a.i in
    let t = in_block a.block.now a.i in
    let n : 256 * a.i + 256 - 256 * a.i ≡ 256 = omega arith in
    let P = take (256 * a.i + 256 - 256 * a.i) (drop (256 * a.i) a.block.now) in
    let o : (r : Result ℕ Refusal) → answer_of r ≡ page_capacity_answer P → result_ok r ≡ offer_at a.block.now a.marks a.i =
    λ r m. ok_offers r
    ∙ ap offer_of (rw n at m)
    ∙ is_measured a.block.now a.marks a.i c.told-block c.requires c.if-not-is_marked.ensures (λ e. omega (arith, s, t)) in
    c.ok.ensures.value ∙ o _ (search arith)

pub returns-then-not-is_marked : goal.returns-then-not-is_marked
returns-then-not-is_marked c =
    let a = c.args in
    let s = in_page a.block.now a.i in
    let t = in_block a.block.now a.i in
    search (arith, s, t, not_marked a.block.now a.marks a.i, filled_passed a.block.now a.marks a.i c.told-block c.requires)
