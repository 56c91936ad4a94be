-- `hypothesis::turns::rank_turn` meets its contract. The loop's invariant: the placements of the columns below `a` are ranked. Assumes nothing.
use mathlib.Core.Path.{◌≡◌}
use Rattle.hypothesis.specs.Turns.{ranked_turn}
use Rattle.hypothesis.proofs.turns.rank_turn.Given as goal

abbrev pub invariant-loop-a : goal.invariant-loop-a
invariant-loop-a l = l.held ≡ ranked_turn l.initial.held l.sums l.contributing l.t l.a
