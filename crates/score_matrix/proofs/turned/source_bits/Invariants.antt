-- `score_matrix::turned::source_bits` meets its contract. The loop's invariant: the array holds the sources of the first k bits, and `p` is the
-- place of the next. Assumes nothing.
use mathlib.Core.Path.{◌≡◌}
use lib.ListN.{length}
use Rattle.matcher.specs.Codes.{bit_place}
use Rattle.score_matrix.specs.Likelihoods.{Sources}
use Rattle.score_matrix.proofs.turned.source_bits.Given as goal

abbrev pub invariant-loop-k : goal.invariant-loop-k
invariant-loop-k l = (l.p ≡ bit_place l.bits l.k) × (length l.sources ≡ 64) × Sources l.bits l.turn l.k l.sources
