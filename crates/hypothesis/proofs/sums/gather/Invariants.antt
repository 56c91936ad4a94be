-- `hypothesis::sums::gather` meets its contract. The loop's invariant: the lanes below x have the codes of the moves so far. Assumes nothing.
use lib.ListN.{get_or}
use Rattle.hypothesis.specs.Sums.{OfMarker, move_after}
use Rattle.hypothesis.proofs.Moves.{Walked, Filled}
use Rattle.hypothesis.proofs.sums.gather.Given as goal

abbrev pub invariant-loop-x : goal.invariant-loop-x
invariant-loop-x l = Walked l.cell l.across l.down l.initial.at l.x l.at
    × Filled (λ y. OfMarker l.cell (λ k. get_or l.codes k 0) (move_after l.down l.initial.at y)) l.lanes l.x
