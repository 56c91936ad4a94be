-- `place_text::writer::Page::put_hex2` meets its contract: the high digit, then the low one. Assumes nothing.
use Rattle.place_text.specs.Numerals.{hex2}
use Rattle.place_text.proofs.Printing.{then, byte}
use Rattle.place_text.proofs.writer.Page.put_hex2.Goals as goal

pub returns : goal.returns
unfolding hex2
returns c = then (byte c.digit.ensures c.put.ensures) (byte c.digit-2.ensures c.put-2.ensures)
