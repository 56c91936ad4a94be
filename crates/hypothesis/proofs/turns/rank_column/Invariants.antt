-- `hypothesis::turns::rank_column` meets its contract. The loop's invariant: `held` has best and runner-up of the ranking of the placements above row
-- `b`. Assumes nothing.
use Prim.Native.Nat.{◌+◌, ◌-◌, ◌≤◌}
use Rattle.ranking.specs.Ranking.{Held}
use Rattle.hypothesis.specs.Turns.{moved_to}
use Rattle.hypothesis.proofs.turns.rank_column.Given as goal

abbrev pub invariant-loop-b : goal.invariant-loop-b
invariant-loop-b l =
    (l.b ≤ l.down) × (l.held.total ≤ l.ranking.total + l.b) × Held l.ranking (moved_to l.sums l.contributing l.t l.a) l.b l.held

abbrev pub decreases-loop-b : goal.decreases-loop-b
decreases-loop-b l = l.down - l.b
