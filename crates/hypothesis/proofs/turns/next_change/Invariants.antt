-- `hypothesis::turns::next_change` meets its contract. The loop's invariant: the placements before row `b` change nothing. Assumes nothing.
use Rattle.ranking.specs.Ranking.{ranking}
use Rattle.hypothesis.specs.Turns.{PassesOver}
use Rattle.hypothesis.proofs.turns.next_change.Given as goal

abbrev pub invariant-loop-b : goal.invariant-loop-b
invariant-loop-b l = PassesOver l.sums l.contributing l.down l.a (ranking l.best l.runner_up 0) l.from l.b
