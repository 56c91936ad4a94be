-- `board::Board::marker_surrounding_charuco_corners` meets its contract. Assumes nothing.
use mathlib.Core.Path.{sym, ◌∙◌}
use Rattle.board.specs.Layout.{parity_of, holds_marker}
use Rattle.board.proofs.Places.{Has, place-has-number}
use Rattle.board.proofs.Board.marker_surrounding_charuco_corners.Goals as goal

pub around-requires : goal.around-requires
around-requires c =
    let b = c.args.self in
    let p = c.in_ok-place.place in
    let has : Has (holds_marker (parity_of b)) b.cols b.rows p.i p.j c.args.id =
    place-has-number (holds_marker (parity_of b)) b.cols b.rows c.args.id p.i p.j (sym c.marker_position.ensures ∙ c.in_ok-place.was) in
    (has.column, has.row)
