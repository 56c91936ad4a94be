-- `alike::quarters::Quarters::new` meets its contract. The loop's invariant: the array holds the sources of the first k bits. Assumes nothing.
use mathlib.Core.Path.{◌≡◌}
use lib.ListN.{length}
use Rattle.alike.specs.Quarters.{QuarterSources}
use Rattle.alike.proofs.quarters.Quarters.new.Given as goal

abbrev pub invariant-loop-k : goal.invariant-loop-k
invariant-loop-k l = (length l.sources ≡ 64) × QuarterSources l.bits l.k l.sources
