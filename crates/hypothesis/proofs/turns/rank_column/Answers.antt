-- `hypothesis::turns::rank_column` meets its contract. The loop's invariant: `held` has best and runner-up of the ranking of the placements above row
-- `b`. Assumes nothing.
use mathlib.Core.Path.{refl, ap, subst}
use Prim.Native.Nat.{ℕ, ◌+◌, ◌<◌}
use native.Mathlib.Nat.{le_antisymm}
use native.Mathlib.Omega.{arith}
use Rattle.ranking.specs.declared.Hypothesis.{Hypothesis}
use Rattle.ranking.specs.declared.Ranking.{Ranking}
use Rattle.ranking.specs.Ranking.{Held}
use Rattle.ranking.proofs.Unchanged.{held_none, held-ranked}
use Rattle.hypothesis.specs.Turns.{moved_to}
use Rattle.hypothesis.proofs.Moves.{fits-small}
use Rattle.hypothesis.proofs.turns.rank_column.Goals as goal
use Rattle.hypothesis.proofs.turns.rank_column.Goals.{In-loop-b, Start}

-- the placements of the column
module _ (c : Start) where
  abbrev row : ℕ → Hypothesis
  row = let x = c.args in moved_to x.sums.now x.contributing x.t x.a

pub loop-b-init : goal.loop-b-init
loop-b-init c =
    let e = c.next_change-b.ensures in
    let k = c.args.ranking in
    (e.1, omega arith, e.2 k c.args.t refl (held_none k (row (goal.at.loop-b-init c).Start)))

module _ (c : In-loop-b) where
  abbrev b : ℕ
  b = c.loop-b.b

  below : b < 32
  below = omega (arith, c.requires.1.down, c.loop-b-test.true)

pub moved_to-requires : goal.moved_to-requires
moved_to-requires c = let p = c.requires in (p.0, below c, p.1)

pub ranked-held-requires : goal.ranked-held-requires
ranked-held-requires c = omega (arith, c.requires.2, below (goal.at.ranked-held-requires c).In-loop-b, c.loop-b.invariant.1)

pub loop-b-preserved : goal.loop-b-preserved
loop-b-preserved c =
    let k = c.ranked-held in
    let h = c.moved_to in
    let i = c.loop-b.invariant in
    let x = c.args in
    let e = c.next_change-b-in-loop-b.ensures in (
      e.1,
      omega (arith, i.1, e.0, ap (λ (y : Ranking). y.total) k.ensures),
      e.2 x.ranking x.t refl
          (held-ranked x.ranking (row (goal.at.loop-b-preserved c).Start) c.loop-b.b c.loop-b.held i.2 h.result k.result h.ensures k.ensures),
    )

pub returns : goal.returns
returns c =
    subst (λ n. Held c.args.ranking (row (goal.at.returns c).Start) n c.loop-b.held) (le_antisymm c.loop-b.invariant.0 (omega (arith, c.loop-b-test.false))) c.loop-b.invariant.2

pub overflow_add-b : goal.overflow_add-b
overflow_add-b c = fits-small (c.loop-b.b + 1) (omega (arith, below (goal.at.overflow_add-b c).In-loop-b))

pub loop-b-smaller : goal.loop-b-smaller
loop-b-smaller c = omega (arith, c.next_change-b-in-loop-b.ensures.0, c.loop-b-test.true)
