-- `place_text::writer::Page::put_number` meets its contract. Assumes nothing.
use Rattle.place_text.proofs.Printing.{then}
use Rattle.place_text.proofs.writer.Page.put_number.Goals as goal

pub returns : goal.returns
returns c = then c.put_all.ensures (then c.and_decimal.ensures c.put.ensures)
