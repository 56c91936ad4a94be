-- `score_matrix::cell::bit_likelihoods` meets its contract. The loop's invariant: the array holds the log-likelihoods of the first y rows,
-- and is unchanged past them. Assumes nothing.
use Prim.Native.Nat.{◌*◌}
use lib.Ieee.{nan}
use Rattle.score_matrix.specs.Scores.{samples}
use Rattle.lent_list.specs.Parts.{KeptFrom}
use Rattle.score_matrix.specs.Likelihoods.{HoldsLikelihoods}
use Rattle.score_matrix.proofs.cell.bit_likelihoods.Given as goal

abbrev pub invariant-loop-y : goal.invariant-loop-y
invariant-loop-y l =
    HoldsLikelihoods l.table (samples l.bits l.border l.threshold l.grid) (l.y * l.bits) l.likelihoods
    × KeptFrom nan (2 * (l.y * l.bits)) l.initial.likelihoods l.likelihoods
