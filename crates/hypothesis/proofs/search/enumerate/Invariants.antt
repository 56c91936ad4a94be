-- `hypothesis::search::enumerate` meets its contract. The loop's invariant: the placements of the turns below `turn` are ranked, of every shot whose
-- scores the source has. Assumes nothing.
use mathlib.Core.Path.{◌≡◌}
use Rattle.shot_record.specs.Shots.{Shot}
use Rattle.hypothesis.specs.Inputs.{SearchInput}
use Rattle.hypothesis.proofs.Results.{ranked_below}
use Rattle.hypothesis.proofs.search.enumerate.Given as goal

abbrev pub invariant-loop-turn : goal.invariant-loop-turn
invariant-loop-turn g l = (s : Shot) → SearchInput s l.inputs l.index → g.S.TurnSums.scores_of l.source s → l.ranking ≡ ranked_below s l.turn
