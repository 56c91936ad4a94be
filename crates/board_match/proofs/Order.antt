-- The questions of Match before 15, followed by others. Assumes nothing.
use Prim.Native.Nat.{ℕ}
use Rattle.refusal.proofs.Questions.{GoesOn, ask-first, ask_last, followed_by}
use Rattle.board.specs.Questions.{asked_of_board}
use Rattle.board.proofs.Asked.{board_goes_on}
use Rattle.shot_record.specs.Shots.{Shot}
use Rattle.shot_record.specs.Answers.{config_of, spec_of}
use Rattle.board_match.specs.Questions.{settings_answer, table_answer, some_answer, cells_answer, points_answer, samples_answer, room_answer, asked_from9, asked_of_shot}

from_9_goes_on : (s : Shot) (words : ℕ) → GoesOn (asked_from9 s words)
unfolding asked_from9
from_9_goes_on s words =
    ask-first (settings_answer (config_of s)) _ _
    (ask-first (table_answer s) _ _
    (ask-first (some_answer s) _ _
    (ask-first (cells_answer s) _ _
    (ask-first (points_answer s) _ _
    (ask-first (samples_answer s) _ _
    (ask_last (room_answer s words) _))))))

pub shot_goes_on : (s : Shot) (words : ℕ) → GoesOn (asked_of_shot s words)
shot_goes_on s words =
    followed_by (asked_of_board (spec_of s) s.codes) (asked_from9 s words) (board_goes_on (spec_of s) s.codes) (from_9_goes_on s words)
