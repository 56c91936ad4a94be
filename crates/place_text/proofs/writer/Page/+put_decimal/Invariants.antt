-- The measure of `place_text::writer::Page::put_decimal`: the number.
use Rattle.place_text.proofs.writer.Page.+put_decimal.Given as goal

abbrev pub decreases-put_decimal : goal.decreases-put_decimal
decreases-put_decimal l = l.n
