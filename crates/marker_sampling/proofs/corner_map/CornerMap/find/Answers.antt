-- `marker_sampling::corner_map::CornerMap::find` meets its contract: no inlier is out of range. Assumes nothing.
use mathlib.Core.Path.{sym, ap}
use native.Mathlib.Omega.{arith}
use Rattle.marker_sampling.specs.Keys.{range_point, in_option}
use Rattle.marker_sampling.proofs.Holders.{nobody}
use Rattle.marker_sampling.proofs.Searched.{still_below, searched_below}
use Rattle.marker_sampling.proofs.corner_map.CornerMap.find.Goals as goal

pub returns-then-u-gt8192 : goal.returns-then-u-gt8192
returns-then-u-gt8192 c = record {
  index_value = λ a k. sym (ap in_option (nobody a (range_point 4096 c.args.u c.args.v) _
      (λ i l. (k.has i l).2.key.right c.args.u c.args.v (omega arith))));
  first_below = still_below (omega arith) c.requires;
}

pub returns-then-v-gt8192 : goal.returns-then-v-gt8192
returns-then-v-gt8192 c = record {
  index_value = λ a k. sym (ap in_option (nobody a (range_point 4096 c.args.u c.args.v) _
      (λ i l. (k.has i l).2.key.under c.args.u c.args.v (omega arith))));
  first_below = still_below (omega arith) c.requires;
}

pub returns : goal.returns
returns c = record {
  index_value = c.last.ensures.index_value;
  first_below = searched_below (omega arith) c.last.ensures.lower_bound;
}
