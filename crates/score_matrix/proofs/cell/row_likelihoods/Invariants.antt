-- `score_matrix::cell::row_likelihoods` meets its contract. The loop's invariant: the array holds the log-likelihoods of the bits before bit x
-- of the row, and is unchanged past them.
-- Assumes nothing.
use mathlib.Core.Path.{◌≡◌}
use Prim.Native.Nat.{◌+◌, ◌*◌}
use lib.ListN.{length}
use lib.Ieee.{nan}
use Rattle.score_matrix.specs.Scores.{samples}
use Rattle.lent_list.specs.Parts.{KeptFrom}
use Rattle.score_matrix.specs.Likelihoods.{HoldsLikelihoods}
use Rattle.score_matrix.proofs.cell.row_likelihoods.Given as goal

abbrev pub invariant-loop-x : goal.invariant-loop-x
invariant-loop-x l =
    (length l.likelihoods ≡ 128) × HoldsLikelihoods l.table (samples l.bits l.border l.threshold l.grid) (l.y * l.bits + l.x) l.likelihoods
    × KeptFrom nan (2 * (l.y * l.bits + l.x)) l.initial.likelihoods l.likelihoods
