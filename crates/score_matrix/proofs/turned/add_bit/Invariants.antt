-- `score_matrix::turned::add_bit` meets its contract. The loop's invariant: the first x scores have the bit added. Assumes nothing.
use mathlib.Core.Path.{◌≡◌}
use Prim.Native.Nat.{ℕ, ◌≤◌, ◌<◌}
use lib.ListN.{length, get_or}
use lib.Ieee.{nan, binary32, add}
use Rattle.matcher.specs.Codes.{bit}
use Rattle.score_matrix.specs.Likelihoods.{by_bit, lane_code}
use Rattle.score_matrix.proofs.turned.add_bit.Given as goal

abbrev pub invariant-loop-x : goal.invariant-loop-x
invariant-loop-x l =
    (length l.sums ≡ 8)
    × ((i : ℕ) → i < l.x → get_or l.sums i nan ≡ add binary32 (get_or l.initial.sums i nan) (by_bit (bit (lane_code l.lanes i) l.s) l.clear l.set))
    × ((i : ℕ) → l.x ≤ i → get_or l.sums i nan ≡ get_or l.initial.sums i nan)
