-- `points::put_points` meets its contract. The loop's invariant: the words below the index are those of the points. Assumes nothing.
use Rattle.points.specs.Points.{HasPoints}
use Rattle.points.proofs.put_points.Given as goal

abbrev pub invariant-loop-k : goal.invariant-loop-k
invariant-loop-k l = HasPoints l.index l.k l.words
