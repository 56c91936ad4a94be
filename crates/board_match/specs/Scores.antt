-- Document 02, 2.6: Match with an array of scores: the result for every record and all output arrays, and the arrays at exit.
use Rattle.std.specs.Prelude.{ℕ, ◌≤◌, ◌≡◌, ◌⊎◌, Bool, leb, length, Float, Result, Err}
use mathlib.Core.List.{List, flat_map}
use Rattle.std.proofs.Math.Option.{Option, none, some}
use Rattle.lent_list.specs.Front.{at_exit}
use Rattle.refusal.specs.declared.Refusal.{Refusal}
use Rattle.refusal.specs.declared.Refusal.TheVariants as refusal
use Rattle.refusal.specs.Questions.{ask}
use Rattle.shot_record.specs.Shots.{Shot, parse}
use Rattle.hypothesis.specs.Search.{best}
use Rattle.hypothesis.specs.ScoreList.{score_count, score_list}
use Rattle.emit.specs.Markers.{marker_words}
use Rattle.board_match.specs.Questions.{asked_of_shot}
use Rattle.board_match.specs.Match.{markers_of, asked_from15, answer_with, match_answer, match_list}
use Rattle.board_match.specs.declared.Match.{Match}

-- 24: Has the score array cells × markers × 4 elements?
abbrev pub score_room_answer : Shot → ℕ → Bool
score_room_answer s places = leb (score_count s) places

-- question 24, then the rest
abbrev pub asked_from24 : Shot → ℕ → Option Refusal → Option Refusal
asked_from24 s places rest =
    ask (score_room_answer s places) refusal.ScoreListTooShort
    rest

-- the error of the first question that fails, if one does: of those before the scores are filled, and of all
abbrev pub refused_unfilled : Shot → ℕ → ℕ → Option Refusal
refused_unfilled s words places = asked_of_shot s words (asked_from24 s places none)

abbrev pub refused_with_scores : Shot → ℕ → ℕ → Option Refusal
refused_with_scores s words places = asked_of_shot s words (asked_from24 s places (asked_from15 s))

abbrev pub scored_shot : Option Shot → ℕ → ℕ → Result Match Refusal
scored_shot none words places = Err refusal.InvalidRecord
scored_shot (some s) words places = answer_with (refused_with_scores s words places) s (best s)

abbrev pub scored_answer : List ℕ → List Float → List ℕ → Result Match Refusal
scored_answer bytes scores lent = scored_shot (parse bytes) (length lent) (length scores)

-- the markers' array at exit: on error unchanged
abbrev pub scored_left : Option Shot → ℕ → List ℕ → List ℕ
scored_left none places lent = lent
scored_left (some s) places lent = at_exit (refused_with_scores s (length lent) places) (flat_map marker_words (markers_of s)) lent

abbrev pub scored_list : List ℕ → List Float → List ℕ → List ℕ
scored_list bytes scores lent = scored_left (parse bytes) (length scores) lent

-- the score array at exit: "15, 16 and 17 leave them filled, every earlier refusal changes none"
abbrev pub filled_left : Option Shot → ℕ → List Float → List Float
filled_left none words scores = scores
filled_left (some s) words scores = at_exit (refused_unfilled s words (length scores)) (score_list s) scores

abbrev pub scores_left : List ℕ → List Float → List ℕ → List Float
scores_left bytes scores lent = filled_left (parse bytes) (length lent) scores

-- the result and both arrays together
pub record GivesScored (bytes : List ℕ) (scores : List Float) (lent : List ℕ) (answer : Result Match Refusal) (filled : List Float) (exit : List ℕ) : Type 0 where
  pub answers : answer ≡ scored_answer bytes scores lent
  pub leaves : exit ≡ scored_list bytes scores lent
  pub fills : filled ≡ scores_left bytes scores lent

-- ---- "It must give the same answer and the same result list as the frugal engine on every input that passes its own list check."
pub record SameMatch (bytes : List ℕ) (scores : List Float) (lent : List ℕ) : Type 0 where
  pub answer : scored_answer bytes scores lent ≡ match_answer bytes lent
  pub list : scored_list bytes scores lent ≡ match_list bytes lent

-- for every record and all arrays: error 24, or the same match; and the same match if the array is long enough
pub record EnginesAgree (bytes : List ℕ) (scores : List Float) (lent : List ℕ) : Type 0 where
  pub either : (scored_answer bytes scores lent ≡ Err refusal.ScoreListTooShort) ⊎ SameMatch bytes scores lent
  pub with_room : ((s : Shot) → parse bytes ≡ some s → score_count s ≤ length scores) → SameMatch bytes scores lent

abbrev pub EnginesRule : Type 0
EnginesRule = (bytes : List ℕ) (scores : List Float) (lent : List ℕ) → EnginesAgree bytes scores lent
