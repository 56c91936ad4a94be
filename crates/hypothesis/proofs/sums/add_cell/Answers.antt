-- `hypothesis::sums::add_cell` meets its contract. The loop's invariant: the cell is added to the sums of the moves before `at`. Assumes nothing.
use mathlib.Core.Path.{ap, ◌∙◌}
use Prim.Native.Nat.{ℕ, ◌*◌}
use native.Mathlib.Omega.{arith}
use lib.Ieee.{Float}
use Rattle.floats.specs.Units.{sum_to}
use Rattle.score_matrix.specs.Likelihoods.{picked_from}
use Rattle.hypothesis.specs.Sums.{code_score}
use Rattle.hypothesis.proofs.Moves.{begun}
use Rattle.hypothesis.proofs.sums.add_cell.Goals as goal
use Rattle.hypothesis.proofs.sums.add_cell.Goals.{Start}

abbrev scores : (c : Start) → ℕ → Float
scores c = let x = c.args in code_score x.cell.board.bits x.likelihoods.now x.sources.now x.codes.now

pub loop-at-init : goal.loop-at-init
loop-at-init c =
    let x = c.args in
    begun x.cell x.across x.down c.requires.0 (scores (goal.at.loop-at-init c).Start) x.sums.now (omega arith) c.first_move-at.result c.first_move-at.ensures

pub loop-at-preserved : goal.loop-at-preserved
loop-at-preserved c =
    let x = c.args in (
      c.add_eight-at.ensures.on.0,
      c.add_eight-at.ensures.sums (scores (goal.at.loop-at-preserved c).Start) x.sums.now
          (λ y h i. let on = c.gather-lanes.ensures y h i in (
            on.0,
            on.1,
            c.sum_eight-scores.ensures y h ∙ ap (λ (code : ℕ). sum_to (picked_from x.likelihoods.now x.sources.now code)
                (x.cell.board.bits * x.cell.board.bits)) on.2,
          ))
          c.loop-at.invariant.1,
    )
