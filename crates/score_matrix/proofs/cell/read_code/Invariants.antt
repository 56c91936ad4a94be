-- `score_matrix::cell::read_code` meets its contract. The loop's invariant: `code` has the first k bits, and `p` is the place of the next.
-- Assumes nothing.
use mathlib.Core.Path.{◌≡◌}
use Rattle.matcher.specs.Codes.{from_bits, bit_place}
use Rattle.score_matrix.specs.Scores.{samples, read_bit}
use Rattle.score_matrix.proofs.cell.read_code.Given as goal

abbrev pub invariant-loop-k : goal.invariant-loop-k
invariant-loop-k l =
    (l.p ≡ bit_place l.bits l.k) × (l.code ≡ from_bits (read_bit (samples l.bits l.border l.threshold l.grid)) l.k)
