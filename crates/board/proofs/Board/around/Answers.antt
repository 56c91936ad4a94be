-- `board::Board::around` meets its contract: none on the rim, and the numbers off it. Assumes nothing.
use mathlib.Core.Path.{sym}
use native.Mathlib.Omega.{arith}
use Rattle.board.proofs.Surroundings.{off_rim, rim_left, rim_top, rim_right, rim_bottom}
use Rattle.board.proofs.Board.around.Goals as goal
use Rattle.board.proofs.Board.around.Goals.{then-i-lt1-via-then-i-lt1, then-i-lt1-via-else-i-lt1+then-j-lt1}
use Rattle.board.proofs.Board.around.Goals.{then-i-lt1-via-else-i-lt1+else-j-lt1+then-width-i}
use Rattle.board.proofs.Board.around.Goals.{then-i-lt1-via-else-i-lt1+else-j-lt1+else-width-i+then-self-j}

pub returns-then-i-lt1 : goal.returns-then-i-lt1
returns-then-i-lt1 c =
    let b = c.args.self in
    let p = c.args.place in
    sym
    (elim c.then-i-lt1.branch [
      | then-i-lt1-via-then-i-lt1 w ↦ rim_left b.rows b.cols p.i p.j (omega arith)
      | then-i-lt1-via-else-i-lt1+then-j-lt1 w ↦ rim_top b.rows b.cols p.i p.j (omega arith)
      | then-i-lt1-via-else-i-lt1+else-j-lt1+then-width-i w ↦ rim_right b.rows b.cols p.i p.j (omega arith)
      | then-i-lt1-via-else-i-lt1+else-j-lt1+else-width-i+then-self-j w ↦ rim_bottom b.rows b.cols p.i p.j (omega arith)
    ])

pub returns : goal.returns
returns c =
    let b = c.args.self in
    let p = c.args.place in
    sym (off_rim b.rows b.cols p.i p.j (record { left = omega arith; top = omega arith; right = omega arith; bottom = omega arith }))
