-- `hypothesis::fill::fill` meets its contract. The loop's invariant: the sums are those of the first k cells. Assumes nothing.
use Rattle.shot_record.specs.Shots.{shot}
use Rattle.hypothesis.specs.Filling.{SumsTo}
use Rattle.hypothesis.proofs.fill.fill.Given as goal

abbrev pub invariant-loop-k : goal.invariant-loop-k
invariant-loop-k l = SumsTo (shot l.loaded.bytes.now) l.t.turn l.k l.sums l.contributing
