-- `oracle_exports::scores::fill_scores` meets its contract. The loop's invariant: the first i elements are written. Assumes nothing.
use Rattle.std.specs.Prelude.{◌≡◌, ℕ, ◌*◌, ◌<◌, List, get_or, Float}
use Rattle.std.specs.Float.{nan}
use Rattle.floats.specs.Units.{sum_to}
use Rattle.score_matrix.specs.Likelihoods.{picked}
use Rattle.oracle_exports.proofs.scores.fill_scores.Given as goal

abbrev pub sum_of : List Float → ℕ → ℕ → Float
sum_of l bits code = sum_to (picked l code) (bits * bits)

abbrev pub invariant-loop-i : goal.invariant-loop-i
invariant-loop-i l = (j : ℕ) → j < l.i → get_or l.out j nan ≡ sum_of l.likelihoods l.bits (get_or l.codes j 0)
