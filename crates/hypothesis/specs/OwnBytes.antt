-- Document 02, 2.4: "for one board, table and threshold, a cell's scores and its code are the same wherever in a record its part starts and whatever
-- the other grids hold."
use Rattle.std.specs.Prelude.{◌≡◌, List, ℕ, ◌<◌}
use Rattle.std.proofs.Math.Option.{none, some}
use Rattle.matcher.specs.Codes.{turned}
use Rattle.score_matrix.specs.Scores.{score, read_code}
use Rattle.score_matrix.specs.Locality.{SameBytes}
use Rattle.shot_record.specs.Fields.{byte, grid_size, sample_place, threshold_from, grid_from}
use Rattle.shot_record.specs.Shots.{Shot, parse}
use Rattle.hypothesis.specs.Placements.{cell_total, cell}
use Rattle.hypothesis.specs.Evidence.{table_of, samples_of}

-- a sampled cell of a record that passes question 21, with the shot of the record
pub record SampledCell (bytes : List ℕ) (s : Shot) (k : ℕ) : Type 0 where
  pub passes : parse bytes ≡ some s
  pub inside : k < cell_total s
  pub sampled : (cell s k).sample ≡ none → ⊥

-- Cell j of one record and cell k of another have equal bits and border, equal threshold bytes and equal bytes of the grid, each at its offset in its
-- record.
pub record SameOwn (a : List ℕ) (s : Shot) (j : ℕ) (b : List ℕ) (t : Shot) (k : ℕ) : Type 0 where
  pub bits : s.bits ≡ t.bits
  pub border : s.border ≡ t.border
  pub threshold : byte (threshold_from (sample_place a j)) a ≡ byte (threshold_from (sample_place b k)) b
  pub greys : SameBytes (grid_size s.bits s.border) (grid_from (sample_place a j)) a (grid_from (sample_place b k)) b

-- every score, against every code after every turn, and the code read
pub record SameScores (s : Shot) (j : ℕ) (t : Shot) (k : ℕ) : Type 0 where
  pub scores : (r code : ℕ) → score (table_of s) (samples_of s j) (turned s.bits r code) ≡ score (table_of t) (samples_of t k) (turned t.bits r code)
  pub codes : read_code (samples_of s j) ≡ read_code (samples_of t k)

-- The other cells, the codes and the offsets of the grids may differ.
abbrev pub OwnBytesRule : Type 0
OwnBytesRule = (a b : List ℕ) (s t : Shot) (j k : ℕ) → SampledCell a s j → SampledCell b t k → s.table ≡ t.table → SameOwn a s j b t k
    → SameScores s j t k
