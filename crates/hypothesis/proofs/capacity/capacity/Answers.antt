-- `hypothesis::capacity::capacity` meets its contract. The loop's invariant: the total is the sum over the cells before k. Assumes nothing.
use mathlib.Core.Path.{◌≡◌, refl, ap, ◌∙◌}
use Prim.Native.Nat.{suc, ◌+◌}
use native.Mathlib.Nat.{le_antisymm}
use native.Mathlib.Omega.{arith}
use lib.Ieee.{Float, of_bits, of_fields, odd, neg}
use Rattle.score_matrix.specs.Scores.{null_score}
use Rattle.hypothesis.specs.Capacity.{with_cell, capacity_to}
use Rattle.hypothesis.proofs.capacity.capacity.Goals as goal

pub loop-k-init : goal.loop-k-init
unfolding capacity_to of_bits of_fields odd
loop-k-init c = refl

pub loop-k-preserved : goal.loop-k-preserved
unfolding capacity_to
loop-k-preserved c =
    let l = c.loop-k in
    let x = c.args in
    let n = c.null_score-most in
    let next : suc l.k ≡ l.k + 1 = omega arith in
    c.with_cell-total.ensures
    ∙ ap (λ (y : Float). with_cell l.total y x.inputs x.alignment x.index.now l.k) (ap (λ (y : Float). neg y) n.ensures)
    ∙ ap (λ (y : Float). with_cell y (neg (null_score x.inputs.board.bits)) x.inputs x.alignment x.index.now l.k) l.invariant
    ∙ ap (capacity_to x.inputs x.alignment x.index.now) next

pub returns : goal.returns
returns c =
    let x = c.args in
    c.loop-k.invariant ∙ ap (capacity_to x.inputs x.alignment x.index.now) (le_antisymm c.loop-k.auto.k-end (omega (arith, c.loop-k-test.false)))
