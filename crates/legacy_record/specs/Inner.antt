-- The contracts of the inner functions.
use Rattle.std.specs.Prelude.{◌≡◌, true, List, ℕ, Ok}
use Rattle.board.specs.declared.Board.{Board}
use Rattle.board.specs.Questions.{new_board}
use Rattle.shot_record.specs.Shots.{first_codes, shot, whole_record}
use Rattle.shot_record.specs.Answers.{spec_of}

-- a record whose board passed its questions, with its first codes
pub record Restatable (bytes : List ℕ) (board : Board) (codes : List ℕ) : Type 0 where
  pub whole : whole_record bytes ≡ true
  pub made : new_board (spec_of (shot bytes)) (shot bytes).codes ≡ Ok board
  pub first_codes_is : codes ≡ first_codes (shot bytes)
