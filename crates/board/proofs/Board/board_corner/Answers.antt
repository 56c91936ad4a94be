-- `board::Board::board_corner` meets its contract. Assumes nothing.
use mathlib.Core.Path.{sym}
use Prim.Native.Nat.{◌-◌, ◌%◌, ◌/◌, ◌+◌}
use native.Mathlib.Omega.{arith}
use Rattle.board.specs.Layout.{inner}
use Rattle.board.proofs.Places.{Has, has-place, unplaced}
use Rattle.board.proofs.Corners.{corner-total, corner-has}
use Rattle.board.proofs.Board.board_corner.Goals as goal
use Rattle.board.proofs.Board.board_corner.Goals.{Else-corner_count-id}

pub returns-then-corner_count-id : goal.returns-then-corner_count-id
returns-then-corner_count-id c = sym (unplaced inner _ _ _ (omega arith))

-- the corner is on the board, so the stride is above 0
has : (c : Else-corner_count-id) → let b = c.args.self in
    Has inner b.cols b.rows (c.args.id % (b.cols - 1) + 1) (c.args.id / (b.cols - 1) + 1) c.args.id
has c =
    let b = c.args.self in
    corner-has b.rows b.cols c.args.id (omega (arith, corner-total b.rows b.cols))

pub overflow_sub-stride : goal.overflow_sub-stride
overflow_sub-stride c = omega (arith, (has (goal.at.overflow_sub-stride c).Else-corner_count-id).column)

pub nonzero_rem-result : goal.nonzero_rem-result
nonzero_rem-result c = omega (arith, (has (goal.at.nonzero_rem-result c).Else-corner_count-id).column)

pub returns : goal.returns
returns c = sym (has-place inner _ _ _ _ _ (has (goal.at.returns c).Else-corner_count-id))

pub nonzero_div-result : goal.nonzero_div-result
nonzero_div-result c = nonzero_rem-result c
