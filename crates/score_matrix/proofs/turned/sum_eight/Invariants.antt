-- `score_matrix::turned::sum_eight` meets its contract. The loop's invariant: each score is the sum of the first k terms of its code.
-- Assumes nothing.
use mathlib.Core.Path.{◌≡◌}
use Prim.Native.Nat.{ℕ, ◌<◌}
use lib.ListN.{get_or}
use lib.Ieee.{nan}
use Rattle.floats.specs.Units.{sum_to}
use Rattle.score_matrix.specs.Likelihoods.{picked_from, lane_code}
use Rattle.score_matrix.proofs.turned.sum_eight.Given as goal

abbrev pub invariant-loop-k : goal.invariant-loop-k
invariant-loop-k l =
    (x : ℕ) → x < 8 → get_or l.sums x nan ≡ sum_to (picked_from l.likelihoods l.sources (lane_code l.lanes x)) l.k
