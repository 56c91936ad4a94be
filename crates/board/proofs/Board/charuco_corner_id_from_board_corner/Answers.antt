-- `board::Board::charuco_corner_id_from_board_corner` meets its contract: clipping loses nothing. Assumes nothing.
use mathlib.Core.Path.{◌∙◌}
use Rattle.board.specs.Layout.{inner}
use Rattle.board.proofs.Formulas.{number_read}
use Rattle.board.proofs.Board.charuco_corner_id_from_board_corner.Goals as goal

pub returns : goal.returns
returns c =
    c.corner_id.ensures
    ∙ number_read inner c.args.self.cols c.args.self.rows c.args.i c.args.j c.ranges.i c.ranges.j _ _
    c.clip.ensures
    c.clip-2.ensures
