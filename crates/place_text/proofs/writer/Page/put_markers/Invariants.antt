-- `place_text::writer::Page::put_markers` meets its contract. The loop's invariant: the lines of the first k markers are written. Assumes nothing.
use Rattle.place_text.specs.Text.{marker_lines}
use Rattle.place_text.specs.Writing.{Wrote}
use Rattle.place_text.proofs.writer.Page.put_markers.Given as goal

abbrev pub invariant-loop-k : goal.invariant-loop-k
invariant-loop-k l = Wrote (marker_lines l.markers l.k) l.fn.self l.self
