-- Document 02, 2.7: the result of Match for a legacy record and for the record restated: "turn r and translation t on the old sheet pair with turn
-- (r + 2) mod 4 and (cols − 1, rows − 1) − t on the new, with equal evidence bits."
use Rattle.std.specs.Prelude.{◌≡◌, ℕ, ◌<◌, length, get_or, Result, Ok, Err}
use mathlib.Core.List.{List, map, flat_map}
use Rattle.std.proofs.Math.Option.{Option, none, some}
use Rattle.refusal.specs.declared.Refusal.{Refusal}
use Rattle.lent_list.specs.Front.{at_exit}
use Rattle.board.specs.Questions.{asked_of_board}
use Rattle.shot_record.specs.Shots.{Shot, parse}
use Rattle.shot_record.specs.Answers.{spec_of}
use Rattle.hypothesis.specs.Evidence.{board_in}
use Rattle.emit.specs.Markers.{marker_words}
use Rattle.board_match.specs.declared.Match.{Match}
use Rattle.board_match.specs.Questions.{asked_from9}
use Rattle.board_match.specs.Match.{markers_of, refused_by, match_answer, match_list}
use Rattle.legacy_record.specs.Restated.{restated}
use Rattle.legacy_record.specs.Restating.{restated_bytes}
use Rattle.legacy_record.specs.Rules.{OfBoard}
use Rattle.half_turn.specs.Pairs.{TurnedByHalf}
use Rattle.half_turn.specs.Markers.{paired_marker}
use Rattle.half_turn.specs.Corners.{paired_corners}
use Rattle.half_turn.specs.Ties.{paired_hypothesis, paired_choice, BestUntied, NoTies}

-- best, runner-up and corner alignment pair; margin and the numbers of placements and markers are the same
abbrev pub paired_match : Shot → Match → Match
paired_match s m =
    record {
      best = paired_hypothesis s m.best;
      runner_up = paired_choice s m.runner_up;
      margin = m.margin;
      placements = m.placements;
      corners = paired_corners (board_in s) m.corners;
      markers = m.markers;
    }

-- an error is the same error
abbrev pub paired_answer : Shot → Result Match Refusal → Result Match Refusal
paired_answer s (Ok m) = Ok (paired_match s m)
paired_answer s (Err refused) = Err refused

-- questions 9 to 14 and 23, for every shot: nothing that they check changes
abbrev pub QuestionsRule : Type 0
QuestionsRule = (s : Shot) (words : ℕ) (rest : Option Refusal) → asked_from9 (restated s) words rest ≡ asked_from9 s words rest

-- an old record with a legacy board that is turned by half, and a new one of the shot restated; both boards pass their questions
pub record OldAndNew (old new : List ℕ) (s : Shot) : Type 0 where
  pub below : (i : ℕ) → get_or old i 0 < 256
  pub parses_old : parse old ≡ some s
  pub parses_new : parse new ≡ some (restated s)
  pub turned_by_half : TurnedByHalf s
  pub old_board : asked_of_board (spec_of s) s.codes none ≡ none
  pub new_board_is : asked_of_board (spec_of (restated s)) (restated s).codes none ≡ none

-- so it is for every record that `restate` converts, and what it writes
abbrev pub RestatedRule : Type 0
RestatedRule = (bytes : List ℕ) (s : Shot) → OfBoard bytes s → TurnedByHalf s → OldAndNew bytes (restated_bytes bytes s) s

-- the output array at exit: the words of the paired markers, in the same order; unchanged if the old record is refused
abbrev pub ListRule : Type 0
ListRule = (old new lent : List ℕ) (s : Shot) → OldAndNew old new s → BestUntied s
    → match_list new lent ≡ at_exit (refused_by s (length lent)) (flat_map marker_words (map (paired_marker s) (markers_of s))) lent

-- the result
abbrev pub AnswersRule : Type 0
AnswersRule = (old new lent : List ℕ) (s : Shot) → OldAndNew old new s → NoTies s → match_answer new lent ≡ paired_answer s (match_answer old lent)
