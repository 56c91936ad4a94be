-- `place_text::writer::Page::and_decimal` meets its contract. Assumes nothing.
use Rattle.place_text.proofs.Printing.{then}
use Rattle.place_text.proofs.writer.Page.and_decimal.Goals as goal

pub returns : goal.returns
returns c = then c.put.ensures c.put_decimal.ensures
