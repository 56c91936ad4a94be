-- `matcher::source_place` meets its contract: each arm is its clause of `source`. Assumes nothing.
use mathlib.Core.Path.{◌≡◌}
use Prim.Native.Nat.{◌%◌}
use native.Mathlib.Omega.{arith}
use Rattle.matcher.specs.Codes.{source}
use Rattle.matcher.proofs.source_place.Goals as goal

pub returns-in-0 : goal.returns-in-0
unfolding source
returns-in-0 c = rw c.in-0.is

pub returns-in-1 : goal.returns-in-1
unfolding source
returns-in-1 c = rw c.in-1.is

pub returns-in-2 : goal.returns-in-2
unfolding source
returns-in-2 c = rw c.in-2.is

pub returns-in_default : goal.returns-in_default
unfolding source
returns-in_default c =
    let three : c.args.turn % 4 ≡ 3 = omega arith in
    rw three
