-- The input of the search: a record that passes the questions before 15 (21, 1 to 14, 22 and 23), and what was computed from it once.
use Rattle.std.specs.Prelude.{◌≡◌, List, true, ℕ, ◌*◌, ◌≤◌, ◌<◌, length, nat_abs, Float}
use Rattle.std.proofs.Math.Option.{some}
use Rattle.score_matrix.specs.Scores.{side}
use Rattle.shot_record.specs.Fields.{grid_size}
use Rattle.shot_record.specs.Shots.{Sample, Shot, first_codes, shot, whole_record}
use Rattle.shot_record.specs.Answers.{config_of, border_with}
use Rattle.shot_record.specs.Index.{u_in, v_in, border_in, Index}
use Rattle.hypothesis.specs.declared.Inputs.{Inputs}
use Rattle.hypothesis.specs.Placements.{cell_total, cell}
use Rattle.hypothesis.specs.Evidence.{board_in, table_of}
use Rattle.hypothesis.specs.Accuracy.{Checked}

-- what these questions ensure, as far as the search uses it
pub record PassedShot (s : Shot) : Type 0 where
  pub checked : Checked s
  pub rows : s.rows ≤ 32
  pub cols : s.cols ≤ 32
  pub some_cell : 0 < cell_total s
  pub near : (k : ℕ) → (nat_abs (cell s k).u ≤ 4096) × (nat_abs (cell s k).v ≤ 4096)
  pub grids : (k : ℕ) (x : Sample) → (cell s k).sample ≡ some x → length x.grid ≡ side s.bits s.border * side s.bits s.border

-- board, settings and sizes of a shot, as the search takes them
abbrev pub inputs_of : Shot → Inputs
inputs_of s = record { cells = cell_total s; grid_size = grid_size s.bits s.border; board = board_in s; config = config_of s }

-- the entry of cell k in the index, as far as the search uses it
pub record SearchCell (s : Shot) (index : List ℕ) (k : ℕ) : Type 0 where
  pub u : u_in index k ≡ (cell s k).u
  pub v : v_in index k ≡ (cell s k).v
  pub border : border_in index k ≡ border_with (cell s k).sample

-- The search sees of a shot its inputs and the index of its cells, and no record.
pub record SearchInput (s : Shot) (i : Inputs) (index : List ℕ) : Type 0 where
  pub passed : PassedShot s
  pub is : i ≡ inputs_of s
  pub cells : (k : ℕ) → k < cell_total s → SearchCell s index k

-- with the record, where the index has the offsets of the grids
pub record Ready (bytes : List ℕ) (i : Inputs) (index : List ℕ) : Type 0 where
  pub passed : PassedShot (shot bytes)
  pub is : i ≡ inputs_of (shot bytes)
  pub indexed : Index bytes index
  pub whole : whole_record bytes ≡ true

-- with the likelihood table and the codes
pub record Loaded (bytes : List ℕ) (i : Inputs) (index : List ℕ) (table : List Float) (codes : List ℕ) : Type 0 where
  pub ready : Ready bytes i index
  pub table_is : table ≡ table_of (shot bytes)
  pub codes_are : codes ≡ first_codes (shot bytes)
