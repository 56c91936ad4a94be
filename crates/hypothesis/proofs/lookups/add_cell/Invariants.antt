-- `hypothesis::lookups::add_cell` meets its contract. The loop's invariant: the cell is added to the sums of the moves before `at`. Assumes nothing.
use Prim.Native.Nat.{ℕ, ◌+◌, ◌-◌, ◌*◌}
use lib.ListN.{get_or}
use lib.Ieee.{nan}
use Rattle.hypothesis.specs.Sums.{order, OnMarker, AddedBefore}
use Rattle.hypothesis.proofs.lookups.add_cell.Given as goal

abbrev pub invariant-loop-at : goal.invariant-loop-at
invariant-loop-at l =
    OnMarker l.cell l.down l.at × AddedBefore l.cell (λ (m : ℕ). get_or l.scores (l.first + 4 * m) nan) l.across l.down (order l.at) l.initial.sums l.sums

abbrev pub decreases-loop-at : goal.decreases-loop-at
decreases-loop-at l = 63 * l.across - order l.at
