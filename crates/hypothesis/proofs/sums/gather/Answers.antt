-- `hypothesis::sums::gather` meets its contract. The loop's invariant: the lanes below x have the codes of the moves so far. Assumes nothing.
use mathlib.Core.Path.{refl, ap}
use mathlib.Core.Logic.{inl, inr, ◌⊎◌}
use Prim.Native.Nat.{◌≤◌}
use native.Mathlib.Omega.{arith}
use lib.ListN.{get_or}
use Rattle.integers.proofs.Distances.{lt_or_le}
use Rattle.score_matrix.specs.Likelihoods.{lane_code}
use Rattle.hypothesis.specs.declared.sums.Move.{Move}
use Rattle.hypothesis.specs.Sums.{OfMarker, OfEight, move_after}
use Rattle.hypothesis.proofs.Moves.{not_yet, walked, filled}
use Rattle.hypothesis.proofs.sums.gather.Goals as goal
use Rattle.hypothesis.proofs.sums.gather.Goals.{At-loop-x}

pub loop-x-init : goal.loop-x-init
loop-x-init c =
    let x = c.args in
    (not_yet x.cell x.across x.down c.requires.0 x.first c.requires.1, record { size = refl; codes = λ y h. absurd (omega arith) })

pub loop-x-preserved : goal.loop-x-preserved
loop-x-preserved c =
    let l = c.loop-x in
    let x = c.args in
    let w = l.invariant.0 in (
      walked x.cell x.across x.down c.requires.0 x.first l.x l.at c.next_move-at.result w c.if-across-at.false c.next_move-at.ensures,
      filled (λ y. OfMarker x.cell (λ k. get_or x.codes.now k 0) (move_after x.down x.first y)) l.lanes c.put_code.new.lanes l.x
          c.code_after.result c.loop-x-test.true l.invariant.1 (rw w.is at c.code_after.ensures) c.put_code.ensures,
    )

ended : (c : At-loop-x) → (8 ≤ c.loop-x.x) ⊎ (c.args.across ≤ c.loop-x.at.a)
    → let x = c.args in OfEight x.cell (λ k. get_or x.codes.now k 0) x.across x.down x.first (lane_code c.loop-x.lanes)
ended c out x l i = elim (lt_or_le x c.loop-x.x) [
  | inl h ↦ c.loop-x.invariant.1.codes x h
  | inr h ↦ absurd (elim out [
    | inl o ↦ omega arith
    | inr o ↦ omega (arith, i c.loop-x.x (omega arith), ap (λ (m : Move). m.a) c.loop-x.invariant.0.is)
  ])
]

pub returns-after-loop-x : goal.returns-after-loop-x
returns-after-loop-x c = ended (goal.at.returns-after-loop-x c).At-loop-x (inl c.loop-x-test.false)

pub returns-then-across-at : goal.returns-then-across-at
returns-then-across-at c = ended (goal.at.returns-then-across-at c).At-loop-x (inr c.if-across-at.true)
