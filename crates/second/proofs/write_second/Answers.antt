-- `second::write_second` meets its contract: what the check refuses it refuses; where the record fits, the header is set, then the words. All
-- for the page's own shape. Assumes nothing.
use mathlib.Core.Path.{refl, ◌∙◌}
use native.Mathlib.Omega.{arith}
use Rattle.answer.proofs.Passing.{refused_as}
use Rattle.second.proofs.Headers.{Filled, write_refused, filled_found, headed, room_small, write_long, write_done, put_inside, put_filled, second_put}
use Rattle.second.proofs.write_second.Goals.{In_ok-room}
use Rattle.second.proofs.write_second.Goals as goal

-- what is known once the check has passed
filled : (c : In_ok-room) → Filled c.shape_of-s.result c.args.page.now c.in_ok-room.room
filled c = filled_found _ _ _ c.shape_of-s.ensures (λ i. grind arith) c.in_ok-room.ensures

pub returns-in_err-room : goal.returns-in_err-room
returns-in_err-room c =
    let told = write_refused c.shape_of-s.result c.args.page.now c.args.second.now _ _ c.in_err-room.ensures in
    rw (← c.shape_of-s.ensures, refused_as _ _ c.from_residual.ensures.1, told) (record { answer = refl; bytes = refl })

pub returns-then-room-second : goal.returns-then-room-second
returns-then-room-second c =
    let f = filled (goal.at.returns-then-room-second c).In_ok-room in
    rw (← c.shape_of-s.ensures, write_long f c.args.second.now c.if-room-second.true) (record { answer = refl; bytes = refl })

pub put_header-requires : goal.put_header-requires
put_header-requires c =
    let f = filled (goal.at.put_header-requires c).In_ok-room in (headed f, omega (arith, c.if-room-second.false, room_small f))

pub put_record-requires : goal.put_record-requires
put_record-requires c =
    let f = filled (goal.at.put_record-requires c).In_ok-room in
    (put_inside f _ _ c.put_header.ensures, put_filled f _ _ c.put_header.ensures, omega (arith, f.sound.few))

pub returns : goal.returns
returns c =
    let f = filled (goal.at.returns c).In_ok-room in
    rw (← c.shape_of-s.ensures, write_done f c.args.second.now c.if-room-second.false) (record {
      answer = refl;
      bytes = c.put_record.ensures ∙ second_put f _ _ c.put_header.ensures;
    })
