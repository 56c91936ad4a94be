-- `grid_alignment::rotate_gc_top_left` meets its contract: each arm is its clause of `corner`. Assumes nothing.
use mathlib.Core.Path.{◌≡◌, refl, sym, ap₂, ◌∙◌}
use Prim.Native.Nat.{◌%◌}
use native.Mathlib.Omega.{arith}
use lib.IntN.{ℤ, pos, ◌+ℤ◌, +ℤ_idr}
use mir.Syntax.{w16}
use mir.Val.{SFits}
use Rattle.integers.proofs.Parts.{fits-small, abs_add}
use Rattle.integers.proofs.Words.{word, half, widened}
use Rattle.grid_alignment.specs.Alignment.{point, corner}
use Rattle.integers.proofs.Sums.{Exact, exact_op}
use Rattle.grid_alignment.proofs.rotate_gc_top_left.Goals as goal

module _ (z : ℤ) (f : SFits w16 z) where
  next : Exact ◌+ℤ◌ (half z) (pos 1) (z +ℤ pos 1)
  next = exact_op ◌+ℤ◌ abs_add z (pos 1) (widened z f) refl (omega (arith, fits-small z f))

  same : word (half z) ≡ z +ℤ pos 0
  same = widened z f ∙ sym (+ℤ_idr z)

pub returns-in-0 : goal.returns-in-0
unfolding corner
returns-in-0 c =
    rw c.in-0.is (ap₂ point (widened c.args.u c.ranges.u) (widened c.args.v c.ranges.v))

pub returns-in-1 : goal.returns-in-1
unfolding corner
returns-in-1 c =
    rw c.in-1.is (ap₂ point (next c.args.u c.ranges.u).reads (same c.args.v c.ranges.v))

pub returns-in-2 : goal.returns-in-2
unfolding corner
returns-in-2 c =
    rw c.in-2.is (ap₂ point (next c.args.u c.ranges.u).reads (next c.args.v c.ranges.v).reads)

pub returns-in_default : goal.returns-in_default
unfolding corner
returns-in_default c =
    let three : c.args.turn % 4 ≡ 3 = omega arith in
    rw three (ap₂ point (same c.args.u c.ranges.u) (next c.args.v c.ranges.v).reads)
