-- `place_text::writer::Page::put_decimal` meets its contract: the digits of the tenth, then the last one. Assumes nothing.
use mathlib.Core.Path.{sym}
use Rattle.place_text.proofs.Printing.{then, said, byte}
use Rattle.place_text.proofs.Numerals.{decimal-short, decimal-long}
use Rattle.place_text.proofs.writer.Page.+put_decimal.Goals as goal

pub returns-then-n-lt10 : goal.returns-then-n-lt10
returns-then-n-lt10 t c =
    said (sym (decimal-short c.args.n c.if-n-lt10.true)) (byte c.digit.ensures c.put.ensures)

pub returns : goal.returns
returns t c =
    said (sym (decimal-long c.args.n c.if-n-lt10.false)) (then c.put_decimal.ensures (byte c.digit-2.ensures c.put-2.ensures))
