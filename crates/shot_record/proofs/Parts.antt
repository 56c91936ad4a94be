-- The bytes of a shot from each field on. Assumes nothing.
use mathlib.Core.Path.{◌≡◌, refl}
use Prim.Native.Nat.{ℕ}
use mathlib.Core.List.{List, [], ◌∷◌, ◌++◌}
use lib.ListN.{length}
use Rattle.matcher.specs.Codes.{bit}
use Rattle.shot_record.specs.Shots.{Shot}
use Rattle.shot_record.specs.Writing.{little_endian, if_set, each, map_bytes, cell_bytes, bytes_of}

abbrev pub from_cells : Shot → List ℕ
from_cells s = each cell_bytes s.cells ++ []

abbrev pub from_cell_map : Shot → List ℕ
from_cell_map s = map_bytes s.cells ++ from_cells s

abbrev pub from_cell_count : Shot → List ℕ
from_cell_count s = little_endian 2 (length s.cells) ++ from_cell_map s

abbrev pub from_codes : Shot → List ℕ
from_codes s = each (little_endian 8) s.codes ++ from_cell_count s

abbrev pub from_code_count : Shot → List ℕ
from_code_count s = little_endian 2 (length s.codes) ++ from_codes s

abbrev pub from_marker_size : Shot → List ℕ
from_marker_size s = little_endian 4 s.marker_size_rel ++ from_code_count s

abbrev pub from_cell_size : Shot → List ℕ
from_cell_size s = little_endian 4 s.cell_size ++ from_marker_size s

abbrev pub from_rows : Shot → List ℕ
from_rows s = (s.rows ∷ s.cols ∷ s.bits ∷ s.border ∷ []) ++ from_cell_size s

abbrev pub from_least_weight : ℕ → Shot → List ℕ
from_least_weight m s = if_set (bit m 5) (little_endian 4 s.least_weight) ++ from_rows s

abbrev pub from_table : ℕ → Shot → List ℕ
from_table m s = if_set (bit m 3) (each (little_endian 4) s.table) ++ from_least_weight m s

abbrev pub from_px : ℕ → Shot → List ℕ
from_px m s = if_set (bit m 2) (little_endian 4 s.px_per_square) ++ from_table m s

abbrev pub from_threshold : ℕ → Shot → List ℕ
from_threshold m s = if_set (bit m 1) (little_endian 4 s.border_threshold) ++ from_px m s

abbrev pub from_margin : ℕ → Shot → List ℕ
from_margin m s = if_set (bit m 0) (little_endian 4 s.minimum_margin) ++ from_threshold m s

pub bytes_parts : (m : ℕ) (s : Shot) → bytes_of m s ≡ m ∷ from_margin m s
unfolding bytes_of
bytes_parts m s = refl
