-- `place_text::writer::Page::put_marker` meets its contract: word by word. Assumes nothing.
use Rattle.place_text.specs.Text.{marker_line}
use Rattle.place_text.proofs.Printing.{then}
use Rattle.place_text.proofs.writer.Page.put_marker.Goals as goal

pub returns : goal.returns
unfolding marker_line
returns c =
    then c.put_all.ensures
    (then c.and_word.ensures
    (then c.and_word-2.ensures
    (then c.and_signed_word.ensures
    (then c.and_signed_word-2.ensures (then c.and_word-3.ensures c.and_reading.ensures)))))
