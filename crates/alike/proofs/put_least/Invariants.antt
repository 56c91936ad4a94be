-- `alike::put_least` meets its contract. The loop's invariant: the array holds the canonical keys of the first k codes. Assumes nothing.
use mathlib.Core.Path.{◌≡◌}
use lib.ListN.{length}
use Rattle.alike.specs.Quarters.{HasLeast}
use Rattle.alike.proofs.put_least.Given as goal

abbrev pub invariant-loop-k : goal.invariant-loop-k
invariant-loop-k l = (length l.least ≡ 512) × HasLeast l.bits l.codes l.k l.least
