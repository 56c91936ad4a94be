-- `board::Board::charuco_object_xy` meets its contract. Assumes nothing.
use mathlib.Core.Path.{sym, ◌∙◌}
use native.Mathlib.Omega.{arith}
use Rattle.board.specs.Layout.{inner}
use Rattle.board.proofs.Places.{Has, place-has-number}
use Rattle.board.proofs.Board.charuco_object_xy.Goals as goal
use Rattle.board.proofs.Board.charuco_object_xy.Goals.{In_ok-place}

-- the corner is on the board, so its coordinates are below 2⁸
on-board : (c : In_ok-place) → let p = c.in_ok-place.place in Has inner c.args.self.cols c.args.self.rows p.i p.j c.args.id
on-board c =
    let b = c.args.self in
    let p = c.in_ok-place.place in
    place-has-number inner b.cols b.rows c.args.id p.i p.j (sym c.board_corner.ensures ∙ c.in_ok-place.was)

pub squares-requires : goal.squares-requires
squares-requires c = omega (arith, (on-board c).column)

pub squares-requires-2 : goal.squares-requires-2
squares-requires-2 c = omega (arith, (on-board (goal.at.squares-requires-2 c).In_ok-place).row)
