-- `score_list::fill` meets its contract. The loop's invariant: the scores of the cells of the first `block` blocks of eight are written. Assumes
-- nothing.
use Prim.Native.Nat.{◌*◌, min}
use lib.Ieee.{Float, nan}
use Rattle.lent_list.specs.Scattered.{Wrote}
use Rattle.shot_record.specs.Shots.{Shot, shot}
use Rattle.hypothesis.specs.ScoreList.{marker_total_in, score_in}
use Rattle.score_list.specs.Filling.{Spot, SpotIn}
use Rattle.score_list.proofs.Spots.{whole_place}
use Rattle.score_list.proofs.fill.Given as goal

abbrev pub score_at_spot : Shot → Spot → Float
score_at_spot s p = score_in s p.cell p.marker p.turn

abbrev pub invariant-loop-block : goal.invariant-loop-block
invariant-loop-block l =
    let s = shot l.loaded.bytes.now in
    Wrote nan (SpotIn (marker_total_in s) (min (8 * l.block) l.cells)) (whole_place (marker_total_in s)) (score_at_spot s) l.initial.scores l.scores
