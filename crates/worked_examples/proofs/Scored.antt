-- The scores of two small shots: each follows by computation. Assumes nothing.
use mathlib.Core.Path.{refl}
use lib.Ieee.{add, of_bits, le}
use Rattle.integers.specs.Tests.{every, any_below}
use Rattle.floats.specs.Units.{sum_to}
use Rattle.lent_list.specs.Front.{up_to}
use Rattle.matcher.specs.Codes.{from_bits, source}
use Rattle.board.specs.Numbering.{count_passing}
use Rattle.board.specs.Layout.{parity_of}
use Rattle.board.specs.Questions.{asked_of_size, asked_of_board}
use Rattle.shot_record.specs.Shots.{list}
use Rattle.hypothesis.specs.ScoreList.{score_in, score_list}
use Rattle.board_match.specs.Questions.{asked_from9}
use Rattle.worked_examples.specs.Scores.{Scores}

pub scores : Scores
unfolding score_list score_in up_to list sum_to from_bits source count_passing parity_of of_bits add asked_of_board asked_of_size any_below asked_from9 every le
scores = record { of_place = refl; room = (refl, refl); both_short = refl; scores_short = refl; turns = (refl, refl); of_two = refl; later = λ x. refl }
