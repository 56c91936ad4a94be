-- `board::squares::marker_on` meets its contract. Assumes nothing.
use mathlib.Core.Path.{ap, sym, ◌∙◌}
use Rattle.board.specs.Numbering.{number_if, number_atℤ}
use Rattle.board.specs.Layout.{parity_of, holds_marker}
use Rattle.board.proofs.Markers.{parity_bit, number-on}
use Rattle.board.proofs.squares.marker_on.Goals as goal

pub returns-clause-id : goal.returns-clause-id
unfolding number_atℤ
returns-clause-id c =
    let x = c.args in
    let b = x.board in
    number-on (parity_of b) b.rows b.cols x.i x.j (parity_bit b) c.requires.0 c.requires.1
    ∙ ap (number_if (holds_marker (parity_of b) x.i x.j)) (sym c.id_on.ensures)
