-- The results of the reader: each field of the shot, none after the last, refused if the record is not well-formed.
use Rattle.std.specs.Prelude.{ℕ, ◌+◌, List, [], length, Float, Option, Result, Some, None, Ok, Err}
use Rattle.std.proofs.Math.Option.{Option as Maybe, none, some}
use Rattle.std.proofs.Math.ListN.{get_elem?}
use Rattle.std.specs.Float.{binary32}
use Rattle.std.specs.Float.Ieee.{of_bits}
use Rattle.board.specs.declared.CharucoBoardSpec.{CharucoBoardSpec}
use Rattle.score_matrix.specs.declared.BoardMatchConfig.{BoardMatchConfig}
use Rattle.refusal.specs.declared.Refusal.TheVariants as refusal
use Rattle.shot_record.specs.declared.Header.{Header}
use Rattle.shot_record.specs.declared.ReadCell.{ReadCell}
use Rattle.shot_record.specs.declared.ReadSample.{ReadSample}
use Rattle.shot_record.specs.declared.cells.Part.{Part}
use Rattle.shot_record.specs.Fields.{map_byte, grid_size, sample_place, grid_from}
use Rattle.shot_record.specs.Shots.{Sample, Cell, Shot, parse}
use Rattle.refusal.specs.declared.Refusal.{Refusal}

-- the f32 of a bit pattern
abbrev pub of_pattern : ℕ → Float
of_pattern pattern = of_bits binary32 pattern

abbrev pub config_of : Shot → BoardMatchConfig
config_of s =
    record {
      px_per_square = of_pattern s.px_per_square;
      alignment_min_margin = of_pattern s.minimum_margin;
      cell_weight_border_threshold = of_pattern s.border_threshold;
      least_weight = of_pattern s.least_weight;
    }

abbrev pub spec_of : Shot → CharucoBoardSpec
spec_of s =
    record {
      rows = s.rows;
      cols = s.cols;
      bits = s.bits;
      border_bits = s.border;
      legacy_pattern = s.legacy_pattern;
      cell_size = of_pattern s.cell_size;
      marker_size_rel = of_pattern s.marker_size_rel;
    }

abbrev pub header_of : ℕ → Shot → Header
header_of map s =
    record { map = map; config = config_of s; spec = spec_of s; code_count = length s.codes; cell_count = length s.cells }

abbrev pub header_read : ℕ → Maybe Shot → Result Header Refusal
header_read map none = Err refusal.InvalidRecord
header_read map (some s) = Ok (header_of map s)

abbrev pub header_answer : List ℕ → Result Header Refusal
header_answer bytes = header_read (map_byte bytes) (parse bytes)

abbrev pub entry_read : Maybe ℕ → Option Float
entry_read none = None
entry_read (some pattern) = Some (of_pattern pattern)

abbrev pub entry_answer : Maybe Shot → ℕ → Result (Option Float) Refusal
entry_answer none k = Err refusal.InvalidRecord
entry_answer (some s) k = Ok (entry_read (get_elem? s.table k))

abbrev pub code_read : Maybe ℕ → Option ℕ
code_read none = None
code_read (some x) = Some x

abbrev pub code_answer : Maybe Shot → ℕ → Result (Option ℕ) Refusal
code_answer none k = Err refusal.InvalidRecord
code_answer (some s) k = Ok (code_read (get_elem? s.codes k))

abbrev pub sample_read : Maybe Sample → Option ReadSample
sample_read none = None
sample_read (some s) = Some (record { fraction = of_pattern s.fraction; threshold = s.threshold })

abbrev pub cell_with : Cell → ReadCell
cell_with c = record { u = c.u; v = c.v; sample = sample_read c.sample }

abbrev pub cell_read : Maybe Cell → Option ReadCell
cell_read none = None
cell_read (some c) = Some (cell_with c)

abbrev pub cell_answer : Maybe Shot → ℕ → Result (Option ReadCell) Refusal
cell_answer none k = Err refusal.InvalidRecord
cell_answer (some s) k = Ok (cell_read (get_elem? s.cells k))

-- One cell's grid: empty for a refused record and for an unsampled or absent cell.
abbrev pub grid_with : Maybe Sample → List ℕ
grid_with none = []
grid_with (some s) = s.grid

abbrev pub grid_read : Maybe Cell → List ℕ
grid_read none = []
grid_read (some c) = grid_with c.sample

abbrev pub grid_answer : Maybe Shot → ℕ → List ℕ
grid_answer none k = []
grid_answer (some s) k = grid_read (get_elem? s.cells k)

-- The byte range of that grid in the record, for a cell whose sample starts at `place`: empty where there is no grid.
abbrev pub part_with : ℕ → ℕ → Maybe Sample → Part
part_with place size none = record { first = 0; end = 0 }
part_with place size (some s) = record { first = grid_from place; end = grid_from place + size }

abbrev pub part_read : ℕ → ℕ → Maybe Cell → Part
part_read place size none = record { first = 0; end = 0 }
part_read place size (some c) = part_with place size c.sample

abbrev pub part_answer : List ℕ → Maybe Shot → ℕ → Part
part_answer bytes none k = record { first = 0; end = 0 }
part_answer bytes (some s) k = part_read (sample_place bytes k) (grid_size s.bits s.border) (get_elem? s.cells k)

-- The border of a cell, sampled or not, and its threshold, 0 if unsampled.
abbrev pub border_with : Maybe Sample → Option Float
border_with none = None
border_with (some x) = Some (of_pattern x.fraction)

abbrev pub threshold_with : Maybe Sample → ℕ
threshold_with none = 0
threshold_with (some x) = x.threshold
