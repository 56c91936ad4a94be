-- Document 01, Match: the result for every record and every output array, and the array at exit.
use Rattle.std.specs.Prelude.{ℕ, ◌≡◌, Bool, not, ltb, length, Float, Option, Result, Some, None, Ok, Err}
use mathlib.Core.List.{List, [], flat_map}
use Rattle.std.proofs.Math.Option.{Option as Maybe, none, some}
use Rattle.std.specs.Float.Ieee.{lt}
use Rattle.floats.specs.Units.{nought}
use Rattle.lent_list.specs.Front.{at_exit}
use Rattle.refusal.specs.declared.Refusal.{Refusal}
use Rattle.refusal.specs.declared.Refusal.TheVariants as refusal
use Rattle.refusal.specs.Questions.{ask}
use Rattle.grid_alignment.specs.Alignment.{corner_alignment}
use Rattle.shot_record.specs.Shots.{Shot, parse}
use Rattle.score_matrix.specs.declared.BoardMatchConfig.{BoardMatchConfig}
use Rattle.shot_record.specs.Answers.{of_pattern, config_of}
use Rattle.ranking.specs.declared.Hypothesis.{Hypothesis}
use Rattle.hypothesis.specs.Placements.{placements}
use Rattle.hypothesis.specs.Search.{best, runner_up, selection}
use Rattle.emit.specs.Markers.{Marker, markers, marker_words}
use Rattle.board_match.specs.declared.Match.{Match}
use Rattle.board_match.specs.Questions.{asked_of_shot}

-- the best placement's margin, and its emitted markers
abbrev pub margin_with : Shot → Option Hypothesis → Float
margin_with s None = nought
margin_with s (Some b) = (selection s b).margin

abbrev pub margin_of : Shot → Float
margin_of s = margin_with s (best s)

abbrev pub markers_with : Shot → Option Hypothesis → List Marker
markers_with s None = []
markers_with s (Some b) = markers s b.alignment

abbrev pub markers_of : Shot → List Marker
markers_of s = markers_with s (best s)

-- 15: Does some turn and translation put every cell on the board?
abbrev pub fits_answer : Shot → Bool
fits_answer s = ltb 0 (length (placements s))

-- 16: Is the margin not below the minimum?
abbrev pub minimum : Shot → Float
minimum s = of_pattern s.minimum_margin

abbrev pub margin_passes : BoardMatchConfig → Float → Bool
margin_passes config margin = not (lt margin config.alignment_min_margin)

abbrev pub margin_answer : Shot → Bool
margin_answer s = margin_passes (config_of s) (margin_of s)

-- 17: Was a marker emitted?
abbrev pub markers_answer : Shot → Bool
markers_answer s = ltb 0 (length (markers_of s))

unfoldable pub asked_from15 : Shot → Maybe Refusal
asked_from15 s =
    ask (fits_answer s) refusal.TranslationWindow
    (ask (margin_answer s) (refusal.Margin (margin_of s))
    (ask (markers_answer s) refusal.NoMarkers
    none))

-- the error of the first question that fails, if one does
abbrev pub refused_by : Shot → ℕ → Maybe Refusal
refused_by s marker_words = asked_of_shot s marker_words (asked_from15 s)

-- a placed shot: best, runner-up, margin, number of placements, the corner alignment and the number of markers
abbrev pub match_of : Shot → Hypothesis → Match
match_of s b =
    record {
      best = b;
      runner_up = runner_up s;
      margin = margin_with s (Some b);
      placements = length (placements s);
      corners = corner_alignment b.alignment;
      markers = length (markers s b.alignment);
    }

abbrev pub answer_with : Maybe Refusal → Shot → Option Hypothesis → Result Match Refusal
answer_with (some refused) s b = Err refused
answer_with none s None = Err refusal.TranslationWindow
answer_with none s (Some b) = Ok (match_of s b)

abbrev pub matched_shot : Maybe Shot → ℕ → Result Match Refusal
matched_shot none marker_words = Err refusal.InvalidRecord
matched_shot (some s) marker_words = answer_with (refused_by s marker_words) s (best s)

abbrev pub match_answer : List ℕ → List ℕ → Result Match Refusal
match_answer bytes lent = matched_shot (parse bytes) (length lent)

-- the output array at exit: on error unchanged, else the markers' words overwrite its first elements
abbrev pub left_list : Maybe Shot → List ℕ → List ℕ
left_list none lent = lent
left_list (some s) lent = at_exit (refused_by s (length lent)) (flat_map marker_words (markers_of s)) lent

abbrev pub match_list : List ℕ → List ℕ → List ℕ
match_list bytes lent = left_list (parse bytes) lent

-- the result and the output array together
pub record Gives (bytes lent : List ℕ) (answer : Result Match Refusal) (exit : List ℕ) : Type 0 where
  pub answers : answer ≡ match_answer bytes lent
  pub leaves : exit ≡ match_list bytes lent
