-- `board::Board::corner_id` meets its contract. Assumes nothing.
use mathlib.Core.Path.{sym}
use native.Mathlib.Omega.{arith}
use Rattle.board.proofs.Surroundings.{inner-corner, outer_corner}
use Rattle.board.proofs.Board.corner_id.Goals as goal
use Rattle.board.proofs.Board.corner_id.Goals.{then-width-i-via-then-width-i, then-width-i-via-else-width-i+then-self-j}
use Rattle.board.proofs.Board.corner_id.Goals.{then-width-i-via-else-width-i+else-self-j+then-i-lt1}
use Rattle.board.proofs.Board.corner_id.Goals.{then-width-i-via-else-width-i+else-self-j+else-i-lt1+then-j-lt1}

pub returns-then-width-i : goal.returns-then-width-i
returns-then-width-i c =
    sym
    (outer_corner _ _ _ _
    (λ a b l k. elim c.then-width-i.branch [
      | then-width-i-via-then-width-i w ↦ omega arith
      | then-width-i-via-else-width-i+then-self-j w ↦ omega arith
      | then-width-i-via-else-width-i+else-self-j+then-i-lt1 w ↦ omega arith
      | then-width-i-via-else-width-i+else-self-j+else-i-lt1+then-j-lt1 w ↦ omega arith
    ]))

pub returns : goal.returns
returns c = sym (inner-corner _ _ _ _ (omega arith) (omega arith) (omega arith) (omega arith))
