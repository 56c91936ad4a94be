-- `marker_sampling::walk::collect` meets its contract. The loop's invariant: the results are those of the places before the key, and no
-- search starts after its target. Assumes nothing.
use Prim.Native.Nat.{◌+◌, ◌-◌, ◌*◌, ◌≤◌}
use Rattle.marker_sampling.specs.Cells.{Corners}
use Rattle.marker_sampling.specs.Keys.{MapOf, FirstBelow, Collected}
use Rattle.marker_sampling.proofs.walk.collect.Given as goal

abbrev pub invariant-loop-key : goal.invariant-loop-key
invariant-loop-key l = record {
  most : l.key ≤ 67125249;
  few : l.n ≤ l.key;
  collected : (c : Corners) → MapOf 4096 c l.map.inliers.now l.map.words.now → Collected 4096 c l.map.inliers.now l.key l.initial.results l.results l.n;
  here : FirstBelow l.map.words.now (l.key * 1024) l.here;
  under : FirstBelow l.map.words.now ((l.key + 8193) * 1024) l.under;
}

abbrev pub decreases-loop-key : goal.decreases-loop-key
decreases-loop-key l = 67125249 - l.key
