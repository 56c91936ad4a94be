-- `hypothesis::sums::add_cell` meets its contract. The loop's invariant: the cell is added to the sums of the moves before `at`. Assumes nothing.
use Prim.Native.Nat.{◌-◌, ◌*◌}
use Rattle.hypothesis.specs.Sums.{code_score, order, OnMarker, AddedBefore}
use Rattle.hypothesis.proofs.sums.add_cell.Given as goal

abbrev pub invariant-loop-at : goal.invariant-loop-at
invariant-loop-at l = OnMarker l.cell l.down l.at
    × AddedBefore l.cell (code_score l.cell.board.bits l.likelihoods l.sources l.codes) l.across l.down (order l.at) l.initial.sums l.sums

abbrev pub decreases-loop-at : goal.decreases-loop-at
decreases-loop-at l = 63 * l.across - order l.at
