-- `hypothesis::sums::add_eight` meets its contract. The loop's invariant: the cell is added to the sums of the moves so far. Assumes nothing.
use lib.ListN.{get_or}
use lib.Ieee.{nan}
use Rattle.hypothesis.proofs.Moves.{not_yet, walked, added}
use Rattle.hypothesis.proofs.sums.add_eight.Goals as goal

pub loop-x-init : goal.loop-x-init
loop-x-init c = let x = c.args in (not_yet x.cell x.across x.down c.requires.0 x.first c.requires.2, λ score entry each u. u)

pub loop-x-preserved : goal.loop-x-preserved
loop-x-preserved c =
    let l = c.loop-x in
    let x = c.args in
    let p = c.requires in
    let r = c.next_move-at in
    let n = walked x.cell x.across x.down p.0 x.first l.x l.at r.result l.invariant.0 c.if-across-at.false r.ensures in (
      n,
      λ score entry each u. added x.cell x.across x.down p.0 score entry (λ k. get_or x.scores.now k nan) x.first l.x l.at
          r.result l.sums c.add_score.new.sums each c.loop-x-test.true l.invariant.0 n c.if-across-at.false p.1 r.ensures
          c.add_score.ensures (l.invariant.1 score entry each u),
    )
