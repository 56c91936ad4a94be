-- `place_text::writer::Page::and_signed` meets its contract. Assumes nothing.
use mathlib.Core.Path.{ap}
use mir.Syntax.{w32}
use mir.ValLaws.{to_z-of_z}
use Rattle.place_text.specs.Numerals.{signed_decimal}
use Rattle.place_text.proofs.Printing.{then, said}
use Rattle.place_text.proofs.writer.Page.and_signed.Goals as goal

pub returns : goal.returns
returns c = then c.put.ensures (said (ap signed_decimal (to_z-of_z w32 c.args.z c.ranges.z)) c.put_signed.ensures)
