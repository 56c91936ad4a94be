-- `score_matrix::rows::put_column` meets its contract. The loop's invariant: the first i rows have the column. Assumes nothing.
use mathlib.Core.Path.{◌≡◌, refl}
use native.Mathlib.Omega.{arith}
use lib.ListN.{get_or}
use Rattle.lent_list.proofs.Scattered.{wrote_next}
use lib.Ieee.{nan}
use Rattle.score_matrix.proofs.rows.put_column.Goals as goal

pub loop-i-preserved : goal.loop-i-preserved
loop-i-preserved c =
    let l = c.loop-i in
    let a = c.args in
    wrote_next (get_or a.adds.now l.i nan) l.invariant (λ j h e. absurd (omega (arith, h, e))) (omega arith) refl

pub returns : goal.returns
returns c =
    let l = c.loop-i in
    let e : l.i ≡ c.args.count = omega arith in
    rw e at l.invariant
