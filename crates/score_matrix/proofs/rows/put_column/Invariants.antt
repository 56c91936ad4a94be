-- `score_matrix::rows::put_column` meets its contract. The loop's invariant: the first i rows have the column. Assumes nothing.
use Prim.Native.Nat.{ℕ, ◌+◌, ◌*◌, ◌<◌}
use lib.ListN.{get_or}
use Rattle.lent_list.specs.Scattered.{Wrote}
use lib.Ieee.{nan}
use Rattle.score_matrix.proofs.rows.put_column.Given as goal

abbrev pub invariant-loop-i : goal.invariant-loop-i
invariant-loop-i l =
    Wrote nan (λ (j : ℕ). j < l.i) (λ (j : ℕ). 8 * j + l.x) (λ (j : ℕ). get_or l.adds j nan) l.initial.rows l.rows
