-- Records that encode the same shot have the same results: with bit 5 and the least weight 0, and without the bit (document 02, 2.8).
use Rattle.std.specs.Prelude.{ℕ, ◌+◌, ◌≡◌, List, Float}
use Rattle.shot_record.specs.Shots.{Shot, parse}
use Rattle.shot_record.specs.Writing.{bytes_of, LeastWeightLeftOut}
use Rattle.board_match.specs.Match.{match_answer, match_list}
use Rattle.board_match.specs.Scores.{scored_answer, scored_list, scores_left}

-- of both engines, for all output arrays
pub record SameResults (a b : List ℕ) : Type 0 where
  pub answer : (lent : List ℕ) → match_answer a lent ≡ match_answer b lent
  pub list : (lent : List ℕ) → match_list a lent ≡ match_list b lent
  pub scored_answer_is : (scores : List Float) (lent : List ℕ) → scored_answer a scores lent ≡ scored_answer b scores lent
  pub scored_list_is : (scores : List Float) (lent : List ℕ) → scored_list a scores lent ≡ scored_list b scores lent
  pub scores : (scores : List Float) (lent : List ℕ) → scores_left a scores lent ≡ scores_left b scores lent

abbrev pub SameResultsRule : Type 0
SameResultsRule = (a b : List ℕ) → parse a ≡ parse b → SameResults a b

abbrev pub ZeroLeastWeightRule : Type 0
ZeroLeastWeightRule = (m : ℕ) (s : Shot) → LeastWeightLeftOut m s → SameResults (bytes_of (m + 32) s) (bytes_of m s)
