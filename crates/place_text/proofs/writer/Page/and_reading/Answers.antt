-- `place_text::writer::Page::and_reading` meets its contract: word by word. Assumes nothing.
use Rattle.place_text.specs.Text.{reading}
use Rattle.place_text.proofs.Printing.{then}
use Rattle.place_text.proofs.writer.Page.and_reading.Goals as goal

pub returns : goal.returns
unfolding reading
returns c =
    then c.and_word.ensures (then c.and_code.ensures (then c.and_float.ensures c.put.ensures))
