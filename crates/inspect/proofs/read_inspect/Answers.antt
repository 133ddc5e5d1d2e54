-- `inspect::read_inspect` meets its contract: what the header's check refuses it refuses, then each test answers as the definition does for
-- the page's own shape, in its order, and the record is copied from what was read of the halves. Assumes nothing.
use mathlib.Core.Path.{refl, ap, ◌∙◌}
use Prim.Native.Nat.{◌-◌, ◌/◌}
use native.Mathlib.Omega.{arith}
use borrow.Rule.Slice.PartMut.{put_mid}
use lib.ListN.{length, drop, length-drop}
use lib.Seq.{length-take-le}
use Rattle.cells.proofs.Fits.{zero_bits}
use Rattle.answer.proofs.Passing.{refused_as}
use Rattle.inspect.proofs.Halves.{found_bounds, whole, lent_length}
use Rattle.inspect.proofs.Checks.{Headed, Front, Both, headed_found, read_refused, length_most, front_bad, front_read, front_length, front_wanted, front_few, carried_clear, back_bad, back_read, back_length, back_few, inspect_ends, inspect_output, inspect_done, inspect_out}
use Rattle.inspect.proofs.read_inspect.Goals.{After-record_length-n, Else-first-lt44, Else-rest-after}
use Rattle.inspect.proofs.read_inspect.Goals as goal

-- what is known once the length is read, once the first half is, and once both are
headed : (c : After-record_length-n) → Headed c.shape_of-s.result c.args.page.now c.record_length-n.result
headed c = headed_found _ _ _ c.shape_of-s.ensures (λ i. grind arith) c.in_ok-check_header.ensures c.record_length-n.ensures

front : (c : Else-first-lt44) → let first = c.read_words-first in
    Front c.shape_of-s.result c.args.page.now c.record_length-n.result first.result.bits first.new.buffer
front c =
    let f = headed_found _ _ _ c.shape_of-s.ensures (λ i. grind arith) c.in_ok-check_header.ensures c.record_length-n.ensures in
    let e = c.read_words-first.ensures in
    front_read f _ e.words _ _ e.bits e.bytes c.if-first-lt44.false

both : (c : Else-rest-after) → let first = c.read_words-first in
    let rest = c.read_words-rest in
    Both c.shape_of-s.result c.args.page.now c.record_length-n.result first.result.bits first.new.buffer rest.result.bits rest.new.buffer
both c =
    let f = headed_found _ _ _ c.shape_of-s.ensures (λ i. grind arith) c.in_ok-check_header.ensures c.record_length-n.ensures in
    let e = c.read_words-first.ensures in
    let u = c.read_words-rest.ensures in
    back_read (front_read f _ e.words _ _ e.bits e.bytes c.if-first-lt44.false) _ u.words _ _ u.bits u.bytes c.if-rest-after.false

pub returns-in_err-check_header : goal.returns-in_err-check_header
returns-in_err-check_header c =
    let told = read_refused c.shape_of-s.result c.args.page.now _ _ c.in_err-check_header.ensures c.args.out.now in
    rw (← c.shape_of-s.ensures, refused_as _ _ c.from_residual.ensures.1, told) (record { answer = refl; bytes = refl })

pub read_words-first-requires : goal.read_words-first-requires
read_words-first-requires c =
    let f = headed (goal.at.read_words-first-requires c).After-record_length-n in
    (omega (arith, whole f.halved _ f.header.0), omega arith, zero_bits 252, omega (arith, length_most f), omega arith)

pub returns-then-first-lt44 : goal.returns-then-first-lt44
returns-then-first-lt44 c =
    let f = headed (goal.at.returns-then-first-lt44 c).After-record_length-n in
    rw (← c.shape_of-s.ensures, front_bad f _ c.read_words-first.ensures.words c.if-first-lt44.true c.args.out.now)
    (record { answer = refl; bytes = refl })

pub bounds-front-seam : goal.bounds-front-seam
bounds-front-seam c = let f = front (goal.at.bounds-front-seam c).Else-first-lt44 in omega (arith, front_few f)

pub overflow_sub-wanted : goal.overflow_sub-wanted
overflow_sub-wanted c = front_wanted (front (goal.at.overflow_sub-wanted c).Else-first-lt44)

pub read_words-rest-requires : goal.read_words-rest-requires
read_words-rest-requires c =
    let f = front (goal.at.read_words-rest-requires c).Else-first-lt44 in
    let few = f.headed.halved.sound.few in
    (lent_length f.headed.halved _ f.headed.header.0, omega (arith, few), carried_clear f, omega (arith, length_most f.headed), omega (arith, few))

pub overflow_cast-result-then-rest-after : goal.overflow_cast-result-then-rest-after
overflow_cast-result-then-rest-after c = let h = found_bounds _ _ c.shape_of-s.ensures in omega (arith, c.if-rest-after.true, h)

pub returns-then-rest-after : goal.returns-then-rest-after
returns-then-rest-after c =
    let f = front (goal.at.returns-then-rest-after c).Else-first-lt44 in
    rw (← c.shape_of-s.ensures, back_bad f _ c.read_words-rest.ensures.words c.if-rest-after.true c.args.out.now)
    (record { answer = refl; bytes = refl })

pub overflow_add-half : goal.overflow_add-half
overflow_add-half c =
    let b = both (goal.at.overflow_add-half c).Else-rest-after in omega (arith, front_few b.first, back_few b)

pub returns-then-half-rest : goal.returns-then-half-rest
returns-then-half-rest c =
    let b = both (goal.at.returns-then-half-rest c).Else-rest-after in
    rw (← c.shape_of-s.ensures, inspect_ends b c.if-half-rest.true c.args.out.now) (record { answer = refl; bytes = refl })

pub returns-then-out-n : goal.returns-then-out-n
returns-then-out-n c =
    let b = both (goal.at.returns-then-out-n c).Else-rest-after in
    rw (← c.shape_of-s.ensures, inspect_output b c.if-half-rest.false c.args.out.now c.if-out-n.true) (record { answer = refl; bytes = refl })

pub copy_start-requires : goal.copy_start-requires
copy_start-requires c =
    let f = front (goal.at.copy_start-requires c).Else-first-lt44 in
    (omega (arith, c.if-out-n.false, front_wanted f), omega (arith, front_few f, front_length f))

pub slice_bounds-copy_start-count : goal.slice_bounds-copy_start-count
slice_bounds-copy_start-count c =
    let f = front (goal.at.slice_bounds-copy_start-count c).Else-first-lt44 in omega (arith, c.copy_start.auto.out, c.if-out-n.false, front_wanted f)

pub slice_bounds-copy_start-start : goal.slice_bounds-copy_start-start
slice_bounds-copy_start-start c =
    let f = front (goal.at.slice_bounds-copy_start-start c).Else-first-lt44 in omega (arith, c.copy_start.auto.out, c.if-out-n.false, front_wanted f)

pub overflow_sub-n : goal.overflow_sub-n
overflow_sub-n c = let f = front (goal.at.overflow_sub-n c).Else-first-lt44 in omega (arith, front_wanted f)

pub copy_start-requires-2 : goal.copy_start-requires-2
copy_start-requires-2 c =
    let b = both (goal.at.copy_start-requires-2 c).Else-rest-after in
    let out = c.copy_start.new.out in
    let seam = c.read_words-first.result.bits / 8 in (
      let part = length-take-le (length out - seam) (drop seam out) (omega (arith, length-drop seam out)) in
          omega (arith, part, length-drop seam out, c.copy_start.auto.out, c.if-out-n.false),
      omega (arith, back_length b, back_few b, c.if-half-rest.false),
    )

pub returns : goal.returns
returns c =
    let b = both (goal.at.returns c).Else-rest-after in
    let out = c.copy_start.new.out in
    let seam = c.read_words-first.result.bits / 8 in
    rw (← c.shape_of-s.ensures, inspect_done b c.if-half-rest.false c.args.out.now c.if-out-n.false) (record {
      answer = refl;
      bytes =
          ap (put_mid seam (length out - seam) out) c.copy_start-2.ensures
          ∙ inspect_out b c.if-half-rest.false c.args.out.now out c.if-out-n.false c.copy_start.ensures;
    })
