-- `place_text::writer::Page::and_hex16` meets its contract. Assumes nothing.
use Rattle.place_text.proofs.Printing.{then}
use Rattle.place_text.proofs.writer.Page.and_hex16.Goals as goal

pub returns : goal.returns
returns c = then c.and_hex8.ensures c.put_hex8.ensures
