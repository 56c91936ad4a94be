-- `score_matrix::rows::sum_turns` meets its contract. The loop's invariant: each sum is that of the first k bits' parts. Assumes nothing.
use mathlib.Core.Path.{◌≡◌}
use Prim.Native.Nat.{ℕ, ◌+◌, ◌*◌, ◌<◌}
use lib.ListN.{get_or}
use lib.Ieee.{nan}
use Rattle.floats.specs.Units.{sum_to}
use Rattle.score_matrix.specs.Rows.{picked_row}
use Rattle.score_matrix.proofs.rows.sum_turns.Given as goal

abbrev pub invariant-loop-k : goal.invariant-loop-k
invariant-loop-k l =
    (r x : ℕ) → r < 4 → x < 8 → get_or l.sums (8 * r + x) nan ≡ sum_to (picked_row l.rows l.sources l.code x r) l.k
