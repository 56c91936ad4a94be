-- `hypothesis::framing::cell_sides` meets its contract. The loop's invariant: u and v are the extremes of the cells before k. Assumes nothing.
use mathlib.Core.Path.{◌≡◌}
use Prim.Native.Nat.{◌-◌}
use Rattle.shot_record.specs.Index.{u_in, v_in}
use Rattle.hypothesis.specs.Extremes.{extremes_to}
use Rattle.hypothesis.proofs.framing.cell_sides.Given as goal

abbrev pub invariant-loop-k : goal.invariant-loop-k
invariant-loop-k l = (l.u ≡ extremes_to (u_in l.index) (l.k - 1)) × (l.v ≡ extremes_to (v_in l.index) (l.k - 1))
