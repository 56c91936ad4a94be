-- `hypothesis::turns::placement_sum` meets its contract. Assumes nothing.
use mathlib.Core.Path.{◌≡◌, sym}
use mathlib.Core.List.{List}
use Prim.Native.Nat.{ℕ, ◌+◌, ◌*◌, ◌≤◌, ◌<◌}
use native.Mathlib.Nat.{mul-le-mul}
use native.Mathlib.Omega.{arith}
use lib.ListN.{get_or}
use lib.Ieee.{Float, nan}
use borrow.Author.Tests.{lt-ltb, le-ltb}
use Rattle.ranking.specs.declared.Evidence.TheVariants as evidence
use Rattle.hypothesis.specs.declared.turns.Contributing.{Contributing}
use Rattle.hypothesis.specs.Turns.{count_at, evidence_at}
use Rattle.hypothesis.proofs.Moves.{fits-small}
use Rattle.hypothesis.proofs.turns.placement_sum.Goals as goal
use Rattle.hypothesis.proofs.turns.placement_sum.Goals.{Start}

inside : (c : Start) → c.args.a * c.args.down + c.args.b < 1024
inside c =
    let p = c.requires in
    omega (arith, p.1, mul-le-mul {n₁ = c.args.a} {m₁ = c.args.down} {n₂ = 31} {m₂ = 32} (omega (arith, p.0)) p.2)

pub overflow_mul-result : goal.overflow_mul-result
overflow_mul-result c = fits-small (c.args.a * c.args.down) (omega (arith, inside (goal.at.overflow_mul-result c).Start))

pub overflow_add-result : goal.overflow_add-result
overflow_add-result c = fits-small (c.args.a * c.args.down + c.args.b) (omega (arith, inside (goal.at.overflow_add-result c).Start))

pub offset_bounds-sums-a : goal.offset_bounds-sums-a
offset_bounds-sums-a c = record { fits = omega (arith, inside (goal.at.offset_bounds-sums-a c).Start) }

pub bounds-sums-a : goal.bounds-sums-a
bounds-sums-a c = inside (goal.at.bounds-sums-a c).Start

module _ (sums : List Float) (contributing : Contributing) (d a b : ℕ) where
  told : 0 < count_at contributing (a + b) → evidence.Number (get_or sums (a * d + b) nan) ≡ evidence_at sums contributing d a b
  told h = rw (lt-ltb 0 (count_at contributing (a + b)) h)

  not_told : count_at contributing (a + b) ≤ 0 → evidence.Absent ≡ evidence_at sums contributing d a b
  not_told h = rw (le-ltb 0 (count_at contributing (a + b)) h)

pub returns-then-count_at-gt0 : goal.returns-then-count_at-gt0
returns-then-count_at-gt0 c = let s = c.args in
    told s.sums.now s.contributing s.down s.a s.b (rw (sym c.count_at.ensures) c.if-count_at-gt0.true)

pub returns-else-count_at-gt0 : goal.returns-else-count_at-gt0
returns-else-count_at-gt0 c = let s = c.args in
    not_told s.sums.now s.contributing s.down s.a s.b (rw (sym c.count_at.ensures) c.if-count_at-gt0.false)
