-- `score_matrix::rows::add_row` meets its contract. The loop's invariant: the row is added to the first x sums of the turn. Assumes nothing.
use mathlib.Core.Path.{ap}
use Prim.Native.Nat.{◌+◌, ◌*◌}
use native.Mathlib.Omega.{arith}
use lib.ListN.{get_or}
use Rattle.lent_list.proofs.Scattered.{wrote_next}
use lib.Ieee.{Float, nan, binary32, add}
use Rattle.score_matrix.specs.Rows.{in_row}
use Rattle.score_matrix.proofs.rows.add_row.Goals as goal

pub loop-x-preserved : goal.loop-x-preserved
loop-x-preserved c =
    let l = c.loop-x in
    let a = c.args in
    let from = 8 * a.turn in
    let r : Float = in_row a.rows.now l.x a.row in
    wrote_next (add binary32 (get_or l.sums (from + l.x) nan) r) l.invariant (λ j h e. absurd (omega (arith, h, e))) (omega arith)
    (ap (λ (y : Float). add binary32 y r) (l.invariant.kept (from + l.x) (λ j h e. absurd (omega (arith, h, e)))))
