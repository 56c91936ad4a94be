-- `place_text::writer::Page::put_hex8` meets its contract: the digits of the high half, then those of the low half. Assumes nothing.
use Rattle.place_text.specs.Numerals.{hex8}
use Rattle.place_text.proofs.Printing.{then}
use Rattle.place_text.proofs.writer.Page.put_hex8.Goals as goal

pub returns : goal.returns
unfolding hex8
returns c = then c.put_hex4.ensures c.put_hex4-2.ensures
