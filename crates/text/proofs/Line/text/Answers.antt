-- `text::Line::text` meets its contract: `put_text` puts the text after the bytes of the line. Assumes nothing.
use Rattle.std.proofs.Common.{arith}
use Rattle.text.proofs.Storing.{put_end}
use Rattle.text.proofs.Line.text.Goals as goal

pub returns : goal.returns
returns g c =
    let e = c.put_text-self-inside.ensures in
    put_end (record { place = e.place; bytes = e.bytes }) (omega arith) c.self.view_is (omega arith) (omega (arith, c.requires))
