-- `cells::bits_at` meets its contract: the four bytes from the bit's own byte on hold the bits. Assumes nothing.
use Rattle.cells.proofs.Cutting.{cut_at}
use Rattle.cells.proofs.bits_at.Goals as goal

pub returns : goal.returns
returns c =
    let a = c.args in
    cut_at a.second.now a.at a.count c.four_or_zero.result c.requires.1 c.four_or_zero.ensures
