-- `hypothesis::turns::rank_turn` meets its contract. The loop's invariant: the placements of the columns below `a` are ranked. Assumes nothing.
use mathlib.Core.Path.{ap, ◌∙◌}
use Prim.Native.Nat.{ℕ, ◌*◌, ◌/◌, ◌%◌, ◌≤◌, ◌<◌}
use native.Mathlib.Nat.{le_antisymm, mul-le-mul}
use native.Mathlib.Omega.{arith}
use Rattle.ranking.specs.declared.Hypothesis.{Hypothesis}
use Rattle.ranking.specs.declared.Ranking.{Ranking}
use Rattle.ranking.specs.Ranking.{ranked_to}
use Rattle.ranking.proofs.RankedTo.{ranked_none, ranked-total, next_column}
use Rattle.hypothesis.specs.Turns.{moved_to}
use Rattle.hypothesis.proofs.turns.rank_turn.Goals as goal
use Rattle.hypothesis.proofs.turns.rank_turn.Goals.{In-loop-a, Start}

-- the placements of the turn, from their moves and in order
module _ (c : Start) where
  abbrev by_move : ℕ → ℕ → Hypothesis
  by_move = let x = c.args in moved_to x.sums.now x.contributing x.t

  abbrev in_order : ℕ → Hypothesis
  in_order j = by_move (j / c.args.t.down) (j % c.args.t.down)

pub loop-a-init : goal.loop-a-init
loop-a-init c =
    let row = in_order (goal.at.loop-a-init c).Start in
    ranked_none c.args.ranking row ∙ ap (ranked_to c.args.ranking row) (omega arith)

module _ (c : In-loop-a) where
  abbrev a : ℕ
  a = c.loop-a.a

  below : a < 32
  below = omega (arith, c.requires.0, c.loop-a-test.true)

  few : c.loop-a.held.total ≤ 4096
  few =
      omega (
        arith,
        c.requires.2,
        ap (λ (k : Ranking). k.total) c.loop-a.invariant,
        ranked-total c.args.ranking (λ (j : ℕ). moved_to c.args.sums.now c.args.contributing c.args.t (j / c.args.t.down) (j % c.args.t.down)) (a * c.args.t.down),
        mul-le-mul {n₁ = a} {m₁ = c.args.t.down} {n₂ = 31} {m₂ = 32} (omega (arith, below)) c.requires.1.down,
      )

pub rank_column-held-requires : goal.rank_column-held-requires
rank_column-held-requires c = (below c, c.requires.1, few c)

pub loop-a-preserved : goal.loop-a-preserved
loop-a-preserved c =
    c.rank_column-held.ensures
    ∙ ap (λ (k : Ranking). ranked_to k (by_move (goal.at.loop-a-preserved c).Start c.loop-a.a) c.args.t.down) c.loop-a.invariant
    ∙ next_column c.args.ranking (by_move (goal.at.loop-a-preserved c).Start) c.args.t.down c.loop-a.a

pub returns : goal.returns
returns c =
    c.loop-a.invariant ∙ ap (λ (n : ℕ). ranked_to c.args.ranking (in_order (goal.at.returns c).Start) (n * c.args.t.down))
    (le_antisymm c.loop-a.auto.a-end (omega (arith, c.loop-a-test.false)))
