-- `link_check::chains::key_for` meets its contract. Assumes nothing.
use mathlib.Core.Path.{ap}
use Prim.Native.Nat.{ℕ, ◌%◌}
use native.Mathlib.Omega.{arith}
use Rattle.link_check.proofs.chains.key_for.Goals as goal
use Rattle.link_check.proofs.chains.key_for.Goals.{in-Marker, in-MarkerAndCorner}

pub returns : goal.returns
returns c = (
  elim c.match-by.branch [
    | in-Marker w ↦ rw w.in-Marker.is (ap (λ (n : ℕ). n % 4096) w.sum-is)
    | in-MarkerAndCorner w ↦ rw w.in-MarkerAndCorner.is (ap (λ (n : ℕ). n % 4096) w.sum-is)
  ],
  omega arith,
)
