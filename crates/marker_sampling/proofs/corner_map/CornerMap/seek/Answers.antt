-- `marker_sampling::corner_map::CornerMap::seek` meets its contract. The loop's invariant: the words before `p` are below x. Assumes nothing.
use native.Mathlib.Omega.{arith}
use borrow.Author.Count.{below_more}
use Rattle.marker_sampling.proofs.corner_map.CornerMap.seek.Goals as goal

pub returns-then-x-self : goal.returns-then-x-self
returns-then-x-self c =
    let i = c.loop-p.invariant in
    record {
      inside = i.inside;
      below = i.below;
      above = λ k h g. let r = c.args.self.searchable.rising c.loop-p.p k h g in omega (arith, r, c.if-x-self.true);
    }

pub loop-p-preserved : goal.loop-p-preserved
loop-p-preserved c =
    record { inside = omega arith; below = below_more _ _ c.loop-p.invariant.below c.if-x-self.false }
