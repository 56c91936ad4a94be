-- `place_text::writer::Page::put_match` meets its contract: line by line. Assumes nothing.
use Rattle.place_text.specs.Text.{match_lines}
use Rattle.place_text.proofs.Printing.{then}
use Rattle.place_text.proofs.writer.Page.put_match.Goals as goal

pub returns : goal.returns
unfolding match_lines
returns c =
    then c.put_all.ensures
    (then c.put_hypothesis.ensures
    (then c.put_next.ensures
    (then c.put_float.ensures
    (then c.put_number.ensures (then c.put_corners.ensures c.put_markers.ensures)))))
