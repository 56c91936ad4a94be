-- `marker_sampling::corner_map::CornerMap::last` meets its contract: the words with the key are between the two indices found, and the last
-- of them is the last inlier's. Assumes nothing.
use mathlib.Core.Path.{sym, ap}
use native.Mathlib.Omega.{arith}
use Rattle.marker_sampling.specs.Keys.{in_option}
use Rattle.marker_sampling.proofs.Searched.{searched_below, none_there, last_there}
use Rattle.marker_sampling.proofs.corner_map.CornerMap.last.Goals as goal

pub seek-end-requires : goal.seek-end-requires
seek-end-requires c = searched_below (omega arith) c.seek-first.ensures

pub returns-then-end-first : goal.returns-then-end-first
returns-then-end-first c = record {
  index_value = λ a k.
      sym (ap in_option (none_there 4096 a _ _ k c.args.u c.args.v c.requires.bounds.0 c.requires.bounds.1 _ _ c.seek-first.ensures c.seek-end.ensures
      c.if-end-first.true));
  lower_bound = c.seek-end.ensures;
}

pub returns : goal.returns
returns c = record {
  index_value = λ a k.
      sym (ap in_option (last_there 4096 a _ _ k c.args.u c.args.v c.requires.bounds.0 c.requires.bounds.1 _ _ c.seek-first.ensures c.seek-end.ensures
      c.if-end-first.false));
  lower_bound = c.seek-end.ensures;
}
