-- `score_matrix::rows::four_sources` meets its contract. The loop's invariant: the bit positions of the first turns are written. Assumes nothing.
use mathlib.Core.Path.{◌≡◌}
use Prim.Native.Nat.{ℕ, ◌+◌, ◌*◌, ◌<◌}
use lib.ListN.{get_or}
use Rattle.matcher.specs.Codes.{source_bit}
use Rattle.score_matrix.proofs.rows.four_sources.Given as goal

abbrev pub invariant-loop-turn : goal.invariant-loop-turn
invariant-loop-turn l =
    (r : ℕ) → r < l.turn → (k : ℕ) → k < l.bits * l.bits → get_or l.sources (64 * r + k) 0 ≡ source_bit l.bits r k
