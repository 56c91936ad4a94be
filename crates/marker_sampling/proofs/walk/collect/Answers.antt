-- `marker_sampling::walk::collect` meets its contract. The loop's invariant: the results are those of the places before the key, and no
-- search starts after its target. Assumes nothing.
use mathlib.Core.Path.{◌≡◌, ap}
use Prim.Native.Nat.{◌+◌}
use native.Mathlib.Omega.{arith}
use Rattle.lent_list.specs.Front.{up_to}
use Rattle.marker_sampling.specs.Cells.{whole_at}
use Rattle.marker_sampling.specs.Keys.{Next}
use Rattle.marker_sampling.proofs.Searched.{still_below, searched_below, none_before, at_start}
use Rattle.marker_sampling.proofs.Passing.{passes, collect_first, collect_on, collect_next, added_most}
use Rattle.marker_sampling.proofs.walk.collect.Goals as goal
use Rattle.marker_sampling.proofs.walk.collect.Goals.{After-next-key, After-next-key-in-loop-key}

-- the first key
first_key : (c : After-next-key) → Next c.args.map.words.now 67125249 0 c.next-key.result
first_key c = c.next-key.ensures 0 (omega arith) (at_start _)

pub loop-key-init : goal.loop-key-init
loop-key-init c = record {
  most = (first_key c).most;
  few = omega arith;
  collected = λ a k.
      collect_on 4096 a _ (passes 4096 a _ _ k 0 c.next-key.result (first_key c)) (collect_first 4096 a _ _);
  here = none_before _ _;
  under = none_before _ _;
}

pub cell_at-cell-requires : goal.cell_at-cell-requires
cell_at-cell-requires c = let i = c.loop-key.invariant in record { key_bound = c.loop-key-test.true; here_below = i.here; under_below = i.under }

-- after the cell at the key
module _ (c : After-next-key-in-loop-key) where
  next_key : Next c.args.map.words.now 67125249 (c.loop-key.key + 1) c.next-key-in-loop-key.result
  next_key = c.next-key-in-loop-key.ensures (c.loop-key.key + 1) (omega arith) c.cell_at-cell.ensures.here_bound

pub loop-key-smaller : goal.loop-key-smaller
loop-key-smaller c = omega (arith, next_key c)

pub loop-key-preserved : goal.loop-key-preserved
loop-key-preserved c =
    let r = next_key c in record {
      most = r.most;
      few = omega (arith, added_most c.put-n.ensures, r.least);
      collected = λ a k.
          collect_on 4096 a _ (passes 4096 a _ _ k (c.loop-key.key + 1) c.next-key-in-loop-key.result r)
          (collect_next 4096 a _ c.loop-key.key (omega arith) (c.cell_at-cell.ensures.words_value a k) (c.loop-key.invariant.collected a k) c.put-n.ensures);
      here = searched_below (omega (arith, r.least)) c.cell_at-cell.ensures.here_bound;
      under = still_below (omega (arith, r.least)) c.cell_at-cell.ensures.under_below;
    }

pub returns : goal.returns
returns c a k =
    let e : 67125249 ≡ c.loop-key.key = omega arith in
    collect_on 4096 a _ (ap (up_to (whole_at 4096 a _)) e) (c.loop-key.invariant.collected a k)
