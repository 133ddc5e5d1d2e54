-- `second::read_second` meets its contract: what the header's check refuses it refuses, then each test answers as the definition does for
-- the page's own shape, in its order, and the record is copied from what was gathered. Assumes nothing.
use mathlib.Core.List.{List}
use mathlib.Core.Path.{refl, ap, ◌∙◌}
use Prim.Native.Nat.{ℕ}
use native.Mathlib.Omega.{arith}
use Rattle.cells.specs.Bytes.{at_start}
use Rattle.rows.specs.Code.{fill_code}
use Rattle.answer.proofs.Passing.{refused_as}
use Rattle.page.proofs.CodeAnswers.{record_passed}
use Rattle.second.proofs.SecondChecks.{Found, read_refused, word_bad, all_found, length_small, second_few, second_spare, second_output, second_done, second_record}
use Rattle.second.proofs.read_second.Goals.{In_ok-check_header, After-record_length-n}
use Rattle.second.proofs.read_second.Goals as goal

-- what is known once all words are gathered and the length is read
found : (c : After-record_length-n) → let g = c.gather-found in
    Found c.shape_of-s.result c.args.page.now g.new.buffer g.result.cells c.record_length-n.result
found c =
    let g = c.gather-found.ensures in
    all_found _ _ _ _ _ _ c.shape_of-s.ensures (λ i. grind arith) c.in_ok-check_header.ensures g.words g.cells g.bytes c.if-found-s.false
    c.record_length-n.ensures

pub returns-in_err-check_header : goal.returns-in_err-check_header
returns-in_err-check_header c =
    let told = read_refused c.shape_of-s.result c.args.page.now _ _ c.in_err-check_header.ensures c.args.out.now in
    rw (← c.shape_of-s.ensures, refused_as _ _ c.from_residual.ensures.1, told) (record { answer = refl; bytes = refl })

pub returns-then-found-s : goal.returns-then-found-s
returns-then-found-s c =
    let h = record_passed fill_code c.shape_of-s.result c.args.page.now c.in_ok-check_header.ensures in
    let told = word_bad c.shape_of-s.result c.args.page.now _ h c.gather-found.ensures.words c.if-found-s.true c.args.out.now in
    rw (← c.shape_of-s.ensures, told) (record { answer = refl; bytes = refl })

pub returns-then-found-n : goal.returns-then-found-n
returns-then-found-n c =
    let f = found (goal.at.returns-then-found-n c).After-record_length-n in
    rw (← c.shape_of-s.ensures, second_few f c.if-found-n.true c.args.out.now) (record { answer = refl; bytes = refl })

pub zero_from-requires : goal.zero_from-requires
zero_from-requires c = let f = found (goal.at.zero_from-requires c).After-record_length-n in (omega (arith, length_small f), omega arith)

pub returns-then-not-zero_from : goal.returns-then-not-zero_from
returns-then-not-zero_from c =
    let f = found (goal.at.returns-then-not-zero_from c).After-record_length-n in
    rw (← c.shape_of-s.ensures, second_spare f _ c.zero_from.ensures c.if-not-zero_from.true c.args.out.now)
    (record { answer = refl; bytes = refl })

pub returns-then-out-n : goal.returns-then-out-n
returns-then-out-n c =
    let f = found (goal.at.returns-then-out-n c).After-record_length-n in
    rw (← c.shape_of-s.ensures, second_output f _ c.zero_from.ensures c.if-found-n.false c.if-not-zero_from.false c.args.out.now c.if-out-n.true)
    (record { answer = refl; bytes = refl })

pub copy_start-requires : goal.copy_start-requires
copy_start-requires c = let f = found (goal.at.copy_start-requires c).After-record_length-n in (c.if-out-n.false, omega (arith, length_small f))

pub returns : goal.returns
returns c =
    let f = found (goal.at.returns c).After-record_length-n in
    let out = c.args.out.now in
    rw (← c.shape_of-s.ensures, second_done f _ c.zero_from.ensures c.if-found-n.false c.if-not-zero_from.false out c.if-out-n.false) (record {
      answer = refl;
      bytes = c.copy_start.ensures ∙ ap (λ (l : List ℕ). at_start l out) (second_record f c.if-found-n.false);
    })
