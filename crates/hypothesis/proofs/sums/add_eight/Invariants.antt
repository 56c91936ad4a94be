-- `hypothesis::sums::add_eight` meets its contract. The loop's invariant: the cell is added to the sums of the moves so far. Assumes nothing.
use mathlib.Core.List.{List}
use Prim.Native.Nat.{ℕ}
use lib.ListN.{get_or}
use lib.Ieee.{Float, nan}
use Rattle.hypothesis.specs.Sums.{OfEight, AddedBefore, order}
use Rattle.hypothesis.proofs.Moves.{Walked}
use Rattle.hypothesis.proofs.sums.add_eight.Given as goal

abbrev pub invariant-loop-x : goal.invariant-loop-x
invariant-loop-x l = Walked l.cell l.across l.down l.initial.at l.x l.at
    × ((score : ℕ → Float) (entry : List Float) → OfEight l.cell score l.across l.down l.initial.at (λ x. get_or l.scores x nan)
    → AddedBefore l.cell score l.across l.down (order l.initial.at) entry l.initial.sums → AddedBefore l.cell score l.across l.down (order l.at) entry l.sums)
