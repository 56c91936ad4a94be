-- `place_text::writer::Page::put_markers` meets its contract: line by line. Assumes nothing.
use mathlib.Core.Path.{◌≡◌, ap}
use native.Mathlib.Numerals.{add-one}
use native.Mathlib.Omega.{arith}
use Rattle.lent_list.specs.Front.{up_to}
use Rattle.place_text.specs.Text.{marker_lines}
use Rattle.place_text.proofs.Printing.{then, not_past, said}
use Rattle.place_text.proofs.writer.Page.put_markers.Goals as goal

pub loop-k-init : goal.loop-k-init
unfolding up_to
loop-k-init c = not_past c.min-self.ensures

pub loop-k-preserved : goal.loop-k-preserved
unfolding up_to
loop-k-preserved c = rw (add-one c.loop-k.k) (then c.loop-k.invariant c.put_marker.ensures)

pub returns : goal.returns
returns c =
    let all : c.loop-k.k ≡ c.args.count = omega (arith, c.loop-k.auto.k-end) in said (ap (marker_lines c.args.markers.now) all) c.loop-k.invariant
