-- `board::Board::marker_count` meets its contract. Assumes nothing.
use native.Mathlib.Omega.{arith}
use Rattle.board.specs.Layout.{parity_of}
use Rattle.board.proofs.Markers.{parity_bit, marker_total_lem}
use Rattle.board.proofs.Board.marker_count.Goals as goal

pub overflow_sub-result : goal.overflow_sub-result
overflow_sub-result c = omega (arith, c.parity.ensures, parity_bit c.args.self)

pub returns : goal.returns
returns c =
    let b = c.args.self in
    omega (arith, c.parity.ensures, marker_total_lem (parity_of b) b.rows b.cols (parity_bit b))
