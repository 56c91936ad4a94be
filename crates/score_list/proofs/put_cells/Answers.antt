-- `score_list::put_cells` meets its contract. The loop's invariant: the scores of the first x lanes are written. Assumes nothing.
use Prim.Native.Nat.{ℕ, ◌+◌, ◌<◌}
use native.Mathlib.Omega.{arith}
use lib.ListN.{length}
use Rattle.lent_list.proofs.Scattered.{wrote_none}
use native.Mathlib.Nat.{mul-le-mul}
use Rattle.hypothesis.specs.ScoreList.{score_place}
use Rattle.hypothesis.proofs.ScoreLists.{place-below}
use Rattle.score_list.specs.Filling.{lane_sum}
use Rattle.score_list.proofs.Spots.{lane_step}
use Rattle.score_list.proofs.put_cells.Goals as goal
use Rattle.score_list.proofs.put_cells.Goals.{In-loop-x, Start}

-- in the loop: the four indices are in the array
module _ (c : In-loop-x) where
  abbrev x : ℕ
  x = c.loop-x.x

  room : score_place c.args.markers (c.args.first + x) c.args.m 3 < length c.args.scores.now
  room =
      let a = c.args in
      omega (arith, c.requires.2, place-below a.markers (a.first + a.count) (a.first + x) a.m 3 (omega (arith, c.loop-x-test.true)) c.requires.0 (omega arith))

pub loop-x-init : goal.loop-x-init
loop-x-init c = wrote_none c.args.scores.now (λ p h. absurd (omega (arith, h.0)))

pub overflow_add-first : goal.overflow_add-first
overflow_add-first c =
    let a = c.args in
    record {
      fits = omega (
        arith,
        room (goal.at.overflow_add-first c).In-loop-x,
        c.requires.0,
        mul-le-mul {n₁ = a.first + c.loop-x.x} {m₁ = 1} {n₂ = a.first + c.loop-x.x} {m₂ = a.markers} (omega arith) (omega (arith, c.requires.0)),
      );
    }

pub overflow_mul-first : goal.overflow_mul-first
overflow_mul-first c = record { fits = omega (arith, room (goal.at.overflow_mul-first c).In-loop-x) }

pub overflow_add-first-in-loop-x : goal.overflow_add-first-in-loop-x
overflow_add-first-in-loop-x c = record { fits = omega (arith, room (goal.at.overflow_add-first-in-loop-x c).In-loop-x) }

pub overflow_mul-first-in-loop-x : goal.overflow_mul-first-in-loop-x
overflow_mul-first-in-loop-x c = record { fits = omega (arith, room (goal.at.overflow_mul-first-in-loop-x c).In-loop-x) }

pub put_four-requires : goal.put_four-requires
put_four-requires c =
    (omega (arith, c.loop-x-test.true, c.requires.1), omega (arith, room (goal.at.put_four-requires c).In-loop-x, c.loop-x.invariant.size))

pub loop-x-preserved : goal.loop-x-preserved
loop-x-preserved c =
    let a = c.args in
    let l = c.loop-x in
    lane_step a.markers a.first a.m l.x (lane_sum a.sums.now) a.scores.now l.scores c.put_four.new.scores c.requires.0 l.invariant c.put_four.ensures
