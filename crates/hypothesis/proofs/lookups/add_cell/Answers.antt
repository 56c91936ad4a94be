-- `hypothesis::lookups::add_cell` meets its contract. The loop's invariant: the cell is added to the sums of the moves before `at`. Assumes nothing.
use mathlib.Core.List.{List}
use Prim.Native.Nat.{ℕ, ◌+◌, ◌*◌}
use native.Mathlib.Omega.{arith}
use lib.ListN.{get_or}
use lib.Ieee.{Float, nan}
use Rattle.hypothesis.proofs.Moves.{begun, step, Step}
use Rattle.hypothesis.proofs.lookups.add_cell.Goals as goal
use Rattle.hypothesis.proofs.lookups.add_cell.Goals.{After-next_move-at}

abbrev score : List Float → ℕ → ℕ → Float
score scores first m = get_or scores (first + 4 * m) nan

pub loop-at-init : goal.loop-at-init
loop-at-init c =
    let x = c.args in
    begun x.cell x.across x.down c.requires.0 (score x.scores.now x.first) x.sums.now (omega arith) c.first_move-at.result c.first_move-at.ensures

-- the sums with the marker of one more move
next : (c : After-next_move-at) → let x = c.args in
    Step x.cell x.across x.down c.requires.0 (score x.scores.now x.first) x.sums.now c.loop-at.at c.next_move-at.result c.add_score.new.sums
next c =
    let x = c.args in
    let l = c.loop-at in
    step x.cell x.across x.down c.requires.0 (score x.scores.now x.first) x.sums.now l.at c.next_move-at.result c.score_after-score.result
    l.sums c.add_score.new.sums l.invariant.0 c.loop-at-test.true c.requires.1 c.score_after-score.ensures
    c.next_move-at.ensures c.add_score.ensures l.invariant.1

pub loop-at-smaller : goal.loop-at-smaller
loop-at-smaller c =
    let stays = c.requires.0 in
    omega (arith, (next (goal.at.loop-at-smaller c).After-next_move-at).later, c.loop-at-test.true, c.loop-at.invariant.0.row, stays.high, stays.rows)

pub loop-at-preserved : goal.loop-at-preserved
loop-at-preserved c = ((next (goal.at.loop-at-preserved c).After-next_move-at).there, (next (goal.at.loop-at-preserved c).After-next_move-at).sums)
