-- `text::Line::signed` meets its contract: `put_signed` puts sign and digits after the bytes of the line. Assumes nothing.
use Rattle.std.proofs.Common.{ℤ, ◌++◌, length, ap, ◌∙◌, arith, to_z-of_z}
use Rattle.text.specs.Text.{signed}
use Rattle.text.proofs.Storing.{put_end}
use Rattle.text.proofs.Line.signed.Goals as goal

pub returns : goal.returns
returns g c =
    let e = c.put_signed-self-inside.ensures in
    let held = to_z-of_z c.ranges.z in
    put_end (record { place = e.place; bytes = e.bytes }) (omega arith) c.self.view_is (omega arith)
    (omega (arith, c.requires, ap (λ (z : ℤ). length (signed z)) held))
    ∙ ap (λ (z : ℤ). c.args.self.now ++ signed z) held
