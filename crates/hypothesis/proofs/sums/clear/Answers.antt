-- `hypothesis::sums::clear` meets its contract. The loop's invariant: the first k sums are 0. Assumes nothing.
use mathlib.Core.Path.{refl}
use Prim.Native.Nat.{◌<◌}
use native.Mathlib.Omega.{arith}
use lib.Ieee.{nan, of_bits, of_fields, odd}
use Rattle.floats.specs.Units.{nought}
use Rattle.shot_record.proofs.Filling.{one_more}
use Rattle.hypothesis.proofs.sums.clear.Invariants.{clear_at}
use Rattle.hypothesis.proofs.sums.clear.Goals as goal
use Rattle.hypothesis.proofs.sums.clear.Goals.{In-loop-k}

pub loop-k-init : goal.loop-k-init
loop-k-init c = record { size = omega arith; before = λ i l. absurd (omega arith) }

inside : (c : In-loop-k) → c.loop-k.k < 1024
inside c = omega (arith, c.loop-k-test.true, c.requires)

pub loop-k-preserved : goal.loop-k-preserved
unfolding of_bits of_fields odd
loop-k-preserved c =
    let l = c.loop-k in one_more clear_at nan l.sums 1024 l.k nought (inside (goal.at.loop-k-preserved c).In-loop-k) l.invariant refl

pub bounds-sums-k : goal.bounds-sums-k
bounds-sums-k c = inside c
