-- `hypothesis::sums::code_after` meets its contract: a board of at most 32 by 32 squares has at most 512 markers. Assumes nothing.
use Prim.Native.Nat.{◌<◌}
use native.Mathlib.Nat.{mul-le-mul}
use native.Mathlib.Omega.{arith}
use Rattle.hypothesis.proofs.sums.code_after.Goals as goal
use Rattle.hypothesis.proofs.sums.code_after.Goals.{After-marker_on-id}

small : (c : After-marker_on-id) → c.marker_on-id.result < 512
small c = let p = c.requires in omega (arith, c.marker_on-id.ensures.small, mul-le-mul {n₂ = 32} {m₂ = 32} p.1 p.0)

pub bounds-codes-id : goal.bounds-codes-id
bounds-codes-id c = small (goal.at.bounds-codes-id c).After-marker_on-id
