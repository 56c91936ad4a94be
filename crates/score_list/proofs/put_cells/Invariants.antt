-- `score_list::put_cells` meets its contract. The loop's invariant: the scores of the first x lanes are written. Assumes nothing.
use lib.Ieee.{nan}
use Rattle.lent_list.specs.Scattered.{Wrote}
use Rattle.score_list.specs.Filling.{LaneIn, lane_place, lane_sum}
use Rattle.score_list.proofs.put_cells.Given as goal

abbrev pub invariant-loop-x : goal.invariant-loop-x
invariant-loop-x l = Wrote nan (LaneIn l.x) (lane_place l.markers l.first l.m) (lane_sum l.sums) l.initial.scores l.scores
