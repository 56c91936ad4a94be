-- Records that encode the same shot have the same results. Assumes nothing.
use mathlib.Core.Path.{ap}
use mathlib.Core.Option.{Option}
use Prim.Native.Nat.{◌+◌}
use lib.ListN.{length}
use Rattle.shot_record.specs.Shots.{Shot}
use Rattle.shot_record.specs.Writing.{bytes_of}
use Rattle.shot_record.proofs.Laws.{zero_least_weight}
use Rattle.board_match.specs.Match.{matched_shot, left_list}
use Rattle.board_match.specs.Scores.{scored_shot, scored_left, filled_left}
use Rattle.board_match.specs.SameResults.{SameResultsRule, ZeroLeastWeightRule}

pub same_results : SameResultsRule
same_results a b e =
    record {
      answer = λ lent. ap (λ (s : Option Shot). matched_shot s (length lent)) e;
      list = λ lent. ap (λ (s : Option Shot). left_list s lent) e;
      scored_answer_is = λ scores lent. ap (λ (s : Option Shot). scored_shot s (length lent) (length scores)) e;
      scored_list_is = λ scores lent. ap (λ (s : Option Shot). scored_left s (length scores) lent) e;
      scores = λ scores lent. ap (λ (s : Option Shot). filled_left s (length lent) scores) e;
    }

pub zero_least_weight_same : ZeroLeastWeightRule
zero_least_weight_same m s o = same_results (bytes_of (m + 32) s) (bytes_of m s) (zero_least_weight m s o)
