-- `score_matrix::cell::sum` meets its contract. The loop's invariant: `total` is the sum of the first k terms, and `rest` has the bits from k on.
-- Assumes nothing.
use mathlib.Core.Path.{◌≡◌}
use Prim.Native.Nat.{◌/◌, ◌^◌}
use Rattle.floats.specs.Units.{sum_to}
use Rattle.score_matrix.specs.Likelihoods.{picked}
use Rattle.score_matrix.proofs.cell.sum.Given as goal

abbrev pub invariant-loop-k : goal.invariant-loop-k
invariant-loop-k l = (l.total ≡ sum_to (picked l.likelihoods l.code) l.k) × (l.rest ≡ l.code / 2 ^ l.k)
