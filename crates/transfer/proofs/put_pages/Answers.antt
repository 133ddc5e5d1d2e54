-- `transfer::put_pages` meets its contract: after i turns the fields of the first i pages are stored. Assumes nothing.
use mathlib.Core.List.{List}
use mathlib.Core.Path.{◌≡◌, refl, sym, ap, ◌∙◌}
use Prim.Native.Nat.{ℕ, ◌+◌, ◌*◌, ◌≤◌}
use native.Mathlib.Omega.{arith}
use lib.ListN.{length, take, drop, length-drop}
use lib.Seq.{sets, length-take-le}
use Rattle.cells.proofs.Storing.{sets_then}
use Rattle.transfer.specs.File.{head, field, page_fields}
use Rattle.transfer.proofs.Fields.{length_head, field_of, page_fields_more, length_page_fields}
use Rattle.transfer.proofs.put_pages.Goals as goal

-- a turn: the head of page i and the page
turn : (out₀ out mid next pages : List ℕ) (i : ℕ) → 256 * i + 256 ≤ length pages → out ≡ sets out₀ 9 (page_fields i pages)
    → mid ≡ sets out (9 + 259 * i) (head 1 256) → next ≡ sets mid (12 + 259 * i) (take 256 (drop (256 * i) pages))
    → next ≡ sets out₀ 9 (page_fields (i + 1) pages)
turn out₀ out mid next pages i h eo em en =
    let page = take 256 (drop (256 * i) pages) in
    let fields = page_fields i pages in
    let lp : length page ≡ 256 = length-take-le 256 (drop (256 * i) pages) (omega (arith, length-drop (256 * i) pages)) in
    let lf : length fields ≡ 259 * i = length_page_fields i pages (omega arith) in
    let both : sets (sets out (9 + 259 * i) (head 1 256)) (12 + 259 * i) page ≡ sets out (9 + 259 * i) (field 1 page) =
    sets_then out (9 + 259 * i) (head 1 256) page (12 + 259 * i) (omega (arith, length_head 1 256))
    ∙ ap (sets out (9 + 259 * i)) (sym (field_of 1 256 page lp)) in
    en ∙ ap (λ (o : List ℕ). sets o (12 + 259 * i) page) em ∙ both
    ∙ ap (λ (o : List ℕ). sets o (9 + 259 * i) (field 1 page)) eo
    ∙ sets_then out₀ 9 fields (field 1 page) (9 + 259 * i) (omega (arith, lf))
    ∙ ap (sets out₀ 9) (sym (page_fields_more i pages))

pub loop-i-init : goal.loop-i-init
unfolding page_fields
loop-i-init c = refl

pub loop-i-preserved : goal.loop-i-preserved
loop-i-preserved c =
    turn c.args.out.now c.loop-i.out c.put_head.new.out c.copy_page.new.out c.args.pages.now c.loop-i.i (omega arith) c.loop-i.invariant c.put_head.ensures c.copy_page.ensures
