-- `marker_sampling::walk::cell_at` meets its contract: the corners of the point at a key are one column and one row further.
-- Assumes nothing.
use mathlib.Core.Path.{◌∙◌, subst}
use Prim.Native.Nat.{ℕ, ◌%◌, ◌/◌}
use native.Mathlib.Omega.{arith}
use borrow.Author.Rules.{rules}
use Rattle.integers.proofs.Words.{read_back}
use Rattle.marker_sampling.specs.Keys.{LowerBound}
use Rattle.marker_sampling.proofs.Searched.{still_below, searched_below}
use Rattle.marker_sampling.proofs.Passing.{words_found}
use Rattle.marker_sampling.proofs.walk.cell_at.Goals as goal

pub last-top_left-requires : goal.last-top_left-requires
last-top_left-requires c = record {
  bounds = (search rules, search rules);
  first_below = still_below (omega arith) c.requires.here_below;
}

pub find-top_right-requires : goal.find-top_right-requires
find-top_right-requires c = searched_below (omega arith) c.last-top_left.ensures.lower_bound

pub find-bottom_left-requires : goal.find-bottom_left-requires
find-bottom_left-requires c = still_below (omega arith) c.requires.under_below

pub find-bottom_right-requires : goal.find-bottom_right-requires
find-bottom_right-requires c = still_below (omega arith) c.find-bottom_left.ensures.first_below

pub returns : goal.returns
returns c = record {
  words_value = λ a k.
      c.words_at-words.ensures
      ∙ words_found 4096 a _ (c.args.key % 8193) (c.args.key / 8193) (read_back c.coordinate.result c.coordinate.type_inv ∙ c.coordinate.ensures)
      (read_back c.coordinate-2.result c.coordinate-2.type_inv ∙ c.coordinate-2.ensures) (c.last-top_left.ensures.index_value a k)
      (c.find-top_right.ensures.index_value a k) (c.find-bottom_right.ensures.index_value a k) (c.find-bottom_left.ensures.index_value a k);
  here_bound = subst (λ (x : ℕ). LowerBound c.args.map.words.now x c.last-top_left.result.end) (omega arith) c.last-top_left.ensures.lower_bound;
  under_below = still_below (omega arith) c.find-bottom_left.ensures.first_below;
}
