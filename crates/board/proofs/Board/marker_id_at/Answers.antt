-- `board::Board::marker_id_at` meets its contract: clipping loses nothing. Assumes nothing.
use mathlib.Core.Path.{◌∙◌}
use Rattle.board.specs.Layout.{parity_of, holds_marker}
use Rattle.board.proofs.Formulas.{number_read}
use Rattle.board.proofs.Board.marker_id_at.Goals as goal

pub returns : goal.returns
returns c =
    let x = c.args in
    c.marker_id.ensures
    ∙ number_read (holds_marker (parity_of x.self)) x.self.cols x.self.rows x.i x.j c.ranges.i c.ranges.j _ _
    c.clip.ensures
    c.clip-2.ensures
