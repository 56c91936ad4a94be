-- `hypothesis::capacity::capacity` meets its contract. The loop's invariant: the total is the sum over the cells before k. Assumes nothing.
use mathlib.Core.Path.{◌≡◌}
use Rattle.hypothesis.specs.Capacity.{capacity_to}
use Rattle.hypothesis.proofs.capacity.capacity.Given as goal

abbrev pub invariant-loop-k : goal.invariant-loop-k
invariant-loop-k l = l.total ≡ capacity_to l.inputs l.alignment l.index l.k
