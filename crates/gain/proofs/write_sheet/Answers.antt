-- `gain::write_sheet` meets its contract: the line of the tally is the sheet of the input. Assumes nothing.
use mathlib.Core.Path.{ap, ◌∙◌}
use Rattle.sheet.specs.Sheet.{sheet_line, sheet_of}
use Rattle.gain.proofs.write_sheet.Goals as goal

pub write_line-requires : goal.write_line-requires
unfolding sheet_of
write_line-requires c = (c.requires.0, c.bytes.ensures ∙ c.put_sheet.ensures.bytes ∙ ap sheet_line c.requires.1)
