-- `log_text::lines::put_cut` meets its contract. Assumes nothing.
use Rattle.place_text.proofs.Printing.{then}
use Rattle.log_text.proofs.lines.put_cut.Goals as goal

pub returns : goal.returns
returns c = then c.put_all.ensures (then c.and_decimal.ensures (then c.and_decimal-2.ensures c.put.ensures))
