-- `emit::words::quotient` meets its contract: bits² is small enough to be an f32. Assumes nothing.
use Prim.Native.Nat.{ℕ, ◌*◌, ◌<◌, ◌≤◌}
use native.Mathlib.Nat.{mul-le-mul}
use native.Mathlib.Omega.{arith}
use lib.Dec.{le→leb}
use lib.Ieee.{in_float}
use Rattle.emit.proofs.words.quotient.Goals as goal

small : (bits : ℕ) → bits < 256 → bits * bits ≤ 255 * 255
small bits h = mul-le-mul {n₂ = 255} {m₂ = 255} (omega arith) (omega arith)

pub int_to_float-result : goal.int_to_float-result
unfolding in_float
int_to_float-result c =
    let n = c.args.bits in
    le→leb (n * n) 16777216 (omega (arith, small n c.ranges.bits.fits))
