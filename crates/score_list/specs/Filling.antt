-- How the array of scores is filled: eight cells side by side, all markers, and of each the four turns.
use Rattle.std.specs.Prelude.{List, ℕ, ◌+◌, ◌*◌, ◌<◌, get_or, Float}
use Rattle.std.proofs.Math.Option.{Option, none, some}
use Rattle.std.specs.Float.{nan}
use Rattle.floats.specs.Units.{nought}
use Rattle.score_matrix.specs.Scores.{likelihood}
use Rattle.score_matrix.specs.Rows.{row_score}
use Rattle.shot_record.specs.Shots.{Sample, Shot}
use Rattle.hypothesis.specs.Placements.{cell}
use Rattle.hypothesis.specs.Evidence.{table_of, samples_with}
use Rattle.hypothesis.specs.ScoreList.{score_place}

-- what bit k of a code adds to the scores of a cell where it is b: 0 if the cell is unsampled
abbrev pub adds_with : Shot → Option Sample → ℕ → ℕ → Float
adds_with s none k b = nought
adds_with s (some x) k b = likelihood (table_of s) (samples_with s (some x)) k b

unfoldable pub adds_of : Shot → ℕ → ℕ → ℕ → Float
adds_of s k = adds_with s (cell s k).sample

-- of one marker: a cell of the eight, and a turn; the index of its score in the array, and its sum
pub record Lane : Type 0 where
  pub cell : ℕ
  pub turn : ℕ

abbrev pub LaneIn : ℕ → Lane → Type 0
LaneIn count p = (p.cell < count) × (p.turn < 4)

abbrev pub lane_place : ℕ → ℕ → ℕ → Lane → ℕ
lane_place markers first m p = score_place markers (first + p.cell) m p.turn

abbrev pub lane_sum : List Float → Lane → Float
lane_sum sums p = get_or sums (8 * p.turn + p.cell) nan

-- of all markers: a cell from a first one on, a marker and a turn; the index of its score, and the score that is added from the rows
pub record Spot : Type 0 where
  pub cell : ℕ
  pub marker : ℕ
  pub turn : ℕ

abbrev pub SpotIn : ℕ → ℕ → Spot → Type 0
SpotIn markers count p = (p.cell < count) × (p.marker < markers) × (p.turn < 4)

abbrev pub spot_place : ℕ → ℕ → Spot → ℕ
spot_place markers first p = score_place markers (first + p.cell) p.marker p.turn

abbrev pub spot_score : List Float → List ℕ → ℕ → List ℕ → Spot → Float
spot_score rows sources bits codes p = row_score rows sources bits (get_or codes p.marker 0) p.cell p.turn
