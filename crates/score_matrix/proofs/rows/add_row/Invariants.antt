-- `score_matrix::rows::add_row` meets its contract. The loop's invariant: the row is added to the first x sums of the turn. Assumes nothing.
use mathlib.Core.List.{List}
use Prim.Native.Nat.{ℕ, ◌+◌, ◌*◌, ◌<◌}
use lib.ListN.{get_or}
use Rattle.lent_list.specs.Scattered.{Wrote}
use lib.Ieee.{Float, nan, binary32, add}
use Rattle.score_matrix.specs.Rows.{in_row}
use Rattle.score_matrix.proofs.rows.add_row.Given as goal

-- the sum of a cell, with what the row has for it
abbrev pub plus : List Float → ℕ → List Float → ℕ → ℕ → Float
plus sums turn rows row x = add binary32 (get_or sums (8 * turn + x) nan) (in_row rows x row)

abbrev pub invariant-loop-x : goal.invariant-loop-x
invariant-loop-x l =
    Wrote nan (λ (y : ℕ). y < l.x) (λ (y : ℕ). 8 * l.turn + y) (plus l.initial.sums l.turn l.rows l.row) l.initial.sums l.sums
