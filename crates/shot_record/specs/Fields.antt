-- Document 01, "The shot record": the offset of each field. A byte past the end of the record counts as 0; such a record fails question 21
-- (`whole_record` in Shots.antt).
use Rattle.std.specs.Prelude.{◌≡◌, ℕ, zero, suc, ◌+◌, ◌*◌, ◌/◌, ◌<◌, Bool, not, List, eqb, get_or}
use Rattle.matcher.specs.Codes.{bit}
use Rattle.score_matrix.specs.Scores.{side}
use Rattle.shot_record.specs.declared.fields.Fields.{Fields}
use Rattle.shot_record.specs.declared.cells.Cursor.{Cursor}

abbrev pub byte : ℕ → List ℕ → ℕ
byte at bytes = get_or bytes at 0

-- the n bytes from an offset on as a little-endian number
unfoldable pub number : ℕ → ℕ → List ℕ → ℕ
number zero at bytes = 0
number (suc n) at bytes = byte at bytes + 256 * number n (suc at) bytes

-- One map byte, the presence flags of the fields that follow, bit 0 lowest: 0 minimum margin, 1 border threshold, 2 px_per_square, 3 table, 2,044
-- bytes. A field whose flag is 0 takes no bytes. Document 02: "Bit 4 … marks a legacy board; it adds no field." and "Bit 5 … brings one float, the
-- least weight, after the table."
abbrev pub map_byte : List ℕ → ℕ
map_byte bytes = byte 0 bytes

abbrev pub is_set : ℕ → ℕ → Bool
is_set map k = not (eqb (bit map k) 0)

abbrev pub margin_at : ℕ
margin_at = 1

unfoldable pub threshold_at : List ℕ → ℕ
threshold_at bytes = margin_at + 4 * bit (map_byte bytes) 0

unfoldable pub px_at : List ℕ → ℕ
px_at bytes = threshold_at bytes + 4 * bit (map_byte bytes) 1

unfoldable pub table_at : List ℕ → ℕ
table_at bytes = px_at bytes + 4 * bit (map_byte bytes) 2

unfoldable pub least_weight_at : List ℕ → ℕ
least_weight_at bytes = table_at bytes + 2044 * bit (map_byte bytes) 3

-- Then bytes rows, cols, bits, border; floats cell_size, marker_size_rel;
unfoldable pub rows_at : List ℕ → ℕ
rows_at bytes = least_weight_at bytes + 4 * bit (map_byte bytes) 5

abbrev pub bits_of : List ℕ → ℕ
bits_of bytes = byte (rows_at bytes + 2) bytes

abbrev pub border_of : List ℕ → ℕ
border_of bytes = byte (rows_at bytes + 3) bytes

-- u16 code count, codes of 8 bytes;
abbrev pub code_count : List ℕ → ℕ
code_count bytes = number 2 (rows_at bytes + 12) bytes

abbrev pub codes_at : List ℕ → ℕ
codes_at bytes = rows_at bytes + 14

-- u16 cell count;
unfoldable pub cell_count_at : List ℕ → ℕ
cell_count_at bytes = codes_at bytes + 8 * code_count bytes

abbrev pub cell_count : List ℕ → ℕ
cell_count bytes = number 2 (cell_count_at bytes) bytes

-- a bitmap of n bits from an offset on, lowest bit first, read as one number: bit k of it is bit k of the number;
abbrev pub map_size : ℕ → ℕ
map_size n = (n + 7) / 8

abbrev pub map_of : ℕ → ℕ → List ℕ → ℕ
map_of n at bytes = number (map_size n) at bytes

-- a cell map: presence flags of the samples;
abbrev pub cell_map_at : List ℕ → ℕ
cell_map_at bytes = cell_count_at bytes + 2

unfoldable pub cell_map : List ℕ → ℕ
cell_map bytes = map_of (cell_count bytes) (cell_map_at bytes) bytes

abbrev pub sampled : List ℕ → ℕ → ℕ
sampled bytes k = bit (cell_map bytes) k

-- per cell u and v as i16 and, if sampled, fraction, threshold byte, grid in row-major order: their lengths in bytes.
abbrev pub grid_size : ℕ → ℕ → ℕ
grid_size bits border = side bits border * side bits border

abbrev pub point_size : ℕ
point_size = 4

abbrev pub sample_length : ℕ → ℕ → ℕ
sample_length zero grid = 0
sample_length (suc b) grid = 5 + grid

abbrev pub cell_length : ℕ → ℕ → ℕ → ℕ
cell_length point is_sampled grid = point + sample_length is_sampled grid

abbrev pub cells_at : List ℕ → ℕ
cells_at bytes = cell_map_at bytes + map_size (cell_count bytes)

unfoldable pub cell_at : List ℕ → ℕ → ℕ
cell_at bytes zero = cells_at bytes
cell_at bytes (suc k) = cell_at bytes k + cell_length point_size (sampled bytes k) (grid_size (bits_of bytes) (border_of bytes))

-- The grid point of cell k: u and v, each as its 16-bit pattern.
pub record Point : Type 0 where
  pub u : ℕ
  pub v : ℕ

abbrev pub point_of : List ℕ → ℕ → Point
point_of bytes k = record { u = number 2 (cell_at bytes k) bytes; v = number 2 (cell_at bytes k + 2) bytes }

-- The offset of the sample of cell k, if it has one: its fraction. Threshold and grid follow after 4 and 5 bytes.
abbrev pub sample_place : List ℕ → ℕ → ℕ
sample_place bytes k = cell_at bytes k + point_size

abbrev pub threshold_from : ℕ → ℕ
threshold_from place = place + 4

abbrev pub grid_from : ℕ → ℕ
grid_from place = place + 5

-- all these offsets and counts
unfoldable pub fields_of : List ℕ → Fields
fields_of bytes =
    record {
      map = map_byte bytes;
      threshold_at = threshold_at bytes;
      px_at = px_at bytes;
      table_at = table_at bytes;
      least_weight_at = least_weight_at bytes;
      rows_at = rows_at bytes;
      code_count = code_count bytes;
      cell_count = cell_count bytes;
      cell_map_at = cell_map_at bytes;
      cells_at = cells_at bytes;
      grid_size = grid_size (bits_of bytes) (border_of bytes);
    }

-- an iteration over the cells, at cell k
abbrev pub cursor_at : List ℕ → ℕ → Cursor
cursor_at bytes k = record { cell = k; start = cell_at bytes k }

-- the iteration is at a cell of the record
abbrev pub AtCell : List ℕ → Cursor → Type 0
AtCell bytes c = (c ≡ cursor_at bytes c.cell) × (c.cell < cell_count bytes)
