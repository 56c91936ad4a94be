-- Document 02, 2.6: the scores that Match with scores writes, "one f32 per cell, marker and turn", "by cell, then marker, then turn, the turn running
-- fastest"; 0 for an unsampled cell, where upstream's `build_score_matrix` has minus infinity.
use Rattle.std.specs.Prelude.{◌≡◌, List, ℕ, ◌+◌, ◌*◌, ◌≤◌, ◌<◌, length, get_or, Float}
use Rattle.std.proofs.Math.Option.{Option, none, some}
use Rattle.std.specs.Float.{nan}
use Rattle.floats.specs.Units.{nought}
use Rattle.lent_list.specs.Front.{up_to}
use Rattle.board.specs.declared.Board.{Board}
use Rattle.board.specs.Layout.{marker_total}
use Rattle.score_matrix.specs.Scores.{score}
use Rattle.shot_record.specs.Shots.{Sample, Shot, list}
use Rattle.hypothesis.specs.declared.Inputs.{Inputs}
use Rattle.hypothesis.specs.Placements.{cell_total, cell}
use Rattle.hypothesis.specs.Evidence.{board_in, table_of, samples_with, code_of}
use Rattle.hypothesis.specs.Inputs.{SearchInput}

-- the number of markers of the board; there may be more codes
abbrev pub marker_total_in : Shot → ℕ
marker_total_in s = marker_total (board_in s)

-- The score of a cell for a rotated code, whatever its weight.
abbrev pub score_with : Shot → Option Sample → ℕ → Float
score_with s none code = nought
score_with s (some x) code = score (table_of s) (samples_with s (some x)) code

-- of cell k and marker m after r quarter turns
unfoldable pub score_in : Shot → ℕ → ℕ → ℕ → Float
score_in s k m r = score_with s (cell s k).sample (code_of s r m)

-- the four turns of a marker, all markers of a cell, and all cells
abbrev pub marker_scores : Shot → ℕ → ℕ → List Float
marker_scores s k m = list (score_in s k m) 4

abbrev pub scores_of_cell : Shot → ℕ → List Float
scores_of_cell s k = up_to (marker_scores s k) (marker_total_in s)

unfoldable pub score_list : Shot → List Float
score_list s = up_to (scores_of_cell s) (cell_total s)

-- their number, and the index of the one of cell k, marker m and turn r on a board with so many markers
abbrev pub score_count : Shot → ℕ
score_count s = cell_total s * marker_total_in s * 4

abbrev pub score_place : ℕ → ℕ → ℕ → ℕ → ℕ
score_place markers k m r = (k * markers + m) * 4 + r

-- a list that has the scores of all cells, markers and turns, each at its index
abbrev pub HoldsScores : Shot → List Float → Type 0
HoldsScores s l = (k m r : ℕ) → k < cell_total s → m < marker_total_in s → r < 4 → get_or l (score_place (marker_total_in s) k m r) nan ≡ score_in s k m r

-- the list has that length, and each score at its index
pub record PlacesOfScores (s : Shot) : Type 0 where
  pub count : length (score_list s) ≡ score_count s
  pub holds : HoldsScores s (score_list s)

abbrev pub PlacesOfScoresRule : Type 0
PlacesOfScoresRule = (s : Shot) → PlacesOfScores s

-- the scores of a cell for all markers of the board are in the array, that for marker 0 at index `first`
abbrev pub InScores : Board → ℕ → List Float → Type 0
InScores board first scores = (m : ℕ) → m < marker_total board → first + 4 * m < length scores

-- The input of the search by look-up: inputs and index of a shot, and an array with its scores.
pub record Scored (s : Shot) (i : Inputs) (index : List ℕ) (scores : List Float) : Type 0 where
  pub input : SearchInput s i index
  pub room : score_count s ≤ length scores
  pub holds : HoldsScores s scores
