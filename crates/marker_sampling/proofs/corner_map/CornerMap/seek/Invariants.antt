-- `marker_sampling::corner_map::CornerMap::seek` meets its contract. The loop's invariant: the words before `p` are below x. Assumes nothing.
use Rattle.marker_sampling.specs.Keys.{FirstBelow}
use Rattle.marker_sampling.proofs.corner_map.CornerMap.seek.Given as goal

abbrev pub invariant-loop-p : goal.invariant-loop-p
invariant-loop-p l = FirstBelow l.self.words.now l.x l.p
