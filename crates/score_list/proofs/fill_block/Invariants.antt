-- `score_list::fill_block` meets its contract. The loop's invariant: the scores of the first m markers are written. Assumes nothing.
use lib.Ieee.{nan}
use Rattle.lent_list.specs.Scattered.{Wrote}
use Rattle.score_list.specs.Filling.{SpotIn, spot_place, spot_score}
use Rattle.score_list.proofs.fill_block.Given as goal

abbrev pub invariant-loop-m : goal.invariant-loop-m
invariant-loop-m l =
    Wrote nan (SpotIn l.m l.count) (spot_place l.markers l.first) (spot_score l.rows l.sources l.board.bits l.codes) l.initial.scores l.scores
