-- `ScoreArray::fill` meets its contract. The loop's invariant: the sums are those of the first k cells, of every shot whose scores the array
-- has. Assumes nothing.
use mathlib.Core.Path.{◌≡◌}
use Rattle.shot_record.specs.Shots.{Shot}
use Rattle.hypothesis.specs.Turns.{turn_of}
use Rattle.hypothesis.specs.Filling.{SumsTo}
use Rattle.hypothesis.specs.ScoreList.{Scored}
use Rattle.hypothesis.proofs.lookups.ScoreArrayTurnSums.fill.Given as goal

abbrev pub invariant-loop-k : goal.invariant-loop-k
invariant-loop-k l =
    (s : Shot) → Scored s l.self.inputs l.self.index.now l.self.scores.now → l.t ≡ turn_of s l.t.turn → SumsTo s l.t.turn l.k l.sums l.contributing
