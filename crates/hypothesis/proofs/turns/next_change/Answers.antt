-- `hypothesis::turns::next_change` meets its contract. The loop's invariant: the placements before row `b` change nothing. Assumes nothing.
use mathlib.Core.Path.{sym, ap, subst, ◌∙◌}
use Prim.Native.Nat.{ℕ, ◌<◌}
use native.Mathlib.Nat.{le_antisymm}
use native.Mathlib.Omega.{arith}
use Rattle.ranking.proofs.Unchanged.{held-unchanged}
use Rattle.hypothesis.specs.Turns.{evidence_at, moved_to, PassesOver}
use Rattle.hypothesis.proofs.turns.next_change.Goals as goal
use Rattle.hypothesis.proofs.turns.next_change.Goals.{In-loop-b}

pub loop-b-init : goal.loop-b-init
loop-b-init c = (omega arith, c.requires.2, λ k t e g. g)

below : (c : In-loop-b) → c.loop-b.b < 32
below c = omega (arith, c.requires.1, c.loop-b-test.true)

pub placement_sum-evidence-requires : goal.placement_sum-evidence-requires
placement_sum-evidence-requires c = let p = c.requires in (p.0, below c, p.1)

pub loop-b-preserved : goal.loop-b-preserved
loop-b-preserved c =
    let b = c.loop-b.b in
    let i = c.loop-b.invariant in
    let a = c.args in
    let sum = c.placement_sum-evidence in
    let test = c.changes_nothing in (
      omega (arith, i.0),
      omega (arith, c.loop-b-test.true),
      λ k t e g. held-unchanged k (moved_to a.sums.now a.contributing t a.a) b a.held (i.2 k t e g) sum.result
          (sum.ensures ∙ ap (λ (d : ℕ). evidence_at a.sums.now a.contributing d a.a b) (sym e)) (sym test.ensures ∙ c.if-not-changes_nothing.false),
    )

pub returns : goal.returns
returns c =
    let a = c.args in
    let i = c.loop-b.invariant in
    subst (PassesOver a.sums.now a.contributing a.down a.a a.held a.from) (le_antisymm i.1 c.loop-b-test.false) i

pub returns-then-not-changes_nothing : goal.returns-then-not-changes_nothing
returns-then-not-changes_nothing c = c.loop-b.invariant
