-- A well-formed record is the encoding of its shot, which fits. Assumes nothing.
use mathlib.Core.Path.{◌≡◌, refl, sym, ◌∙◌, subst}
use Prim.Native.Nat.{ℕ, ◌+◌, ◌*◌, ◌^◌, ◌≤◌, ◌<◌}
use mathlib.Core.Bool.{Bool, true, ◌&&◌}
use mathlib.Core.List.{List, [], ◌∷◌, ◌++◌}
use native.Mathlib.Nat.{le_of_eq}
use native.Mathlib.Omega.{arith}
use lib.Dec.{T, ltb, ltb→lt, lit<}
use lib.ListN.{length}
use lib.Ieee.Fits.{and_l, and_r}
use Rattle.matcher.specs.Codes.{bit}
use Rattle.matcher.proofs.Bits.{bit-small}
use Rattle.score_matrix.specs.Table.{patterns}
use Rattle.shot_record.specs.Fields.{number, map_byte, margin_at, threshold_at, px_at, table_at, least_weight_at, rows_at, code_count, codes_at, cell_count_at, cell_count, cell_map_at}
use Rattle.shot_record.specs.Fields.{cell_map, map_size, cells_at, cell_at}
use Rattle.shot_record.specs.Shots.{Shot, numbers, setting, default_margin, default_threshold, default_px, default_least_weight, cell_of, shot}
use Rattle.shot_record.specs.Writing.{little_endian, if_set, each, All, Bytes, bytes_of, Fit, WrittenShot}
use Rattle.shot_record.proofs.Reading.{Small, number-below, setting-either, table_size}
use Rattle.shot_record.proofs.Lists.{length-list}
use Rattle.shot_record.proofs.LittleEndian.{byte-below}
use Rattle.shot_record.proofs.Runs.{Runs, at-end, byte_written, number_written, setting_written, setting_default}
use Rattle.shot_record.proofs.Sequences.{numbers_written, numbers-below}
use Rattle.shot_record.proofs.CellMaps.{map_of_read}
use Rattle.shot_record.proofs.CellBytes.{cells_written, cells_fit}
use Rattle.shot_record.proofs.Parts.{from_cells, from_cell_map, from_cell_count, from_codes, from_code_count, from_marker_size, from_cell_size, from_rows}
use Rattle.shot_record.proofs.Parts.{from_least_weight, from_table, from_px, from_threshold, from_margin, bytes_parts}
use Rattle.shot_record.proofs.Whole.{Whole}

-- ---- the entries of the built-in table are 32-bit patterns
abbrev all_below : ℕ → List ℕ → Bool
all_below n [] = true
all_below n (x ∷ xs) = ltb x n && all_below n xs

all-below : (n : ℕ) (l : List ℕ) → T (all_below n l) → All (λ (x : ℕ). x < n) l
all-below n [] t = tt
all-below n (x ∷ xs) t = (ltb→lt x n (and_l (ltb x n) (all_below n xs) t), all-below n xs (and_r (ltb x n) (all_below n xs) t))

patterns-below : All (λ (x : ℕ). x < 2 ^ 32) patterns
unfolding patterns
patterns-below = all-below (2 ^ 32) patterns tt

module _ (bytes : List ℕ) (b : Bytes bytes) (w : Whole bytes) where
  abbrev m : ℕ
  m = map_byte bytes

  abbrev s : Shot
  s = shot bytes

  abbrev small : Small bytes
  small = byte-below bytes b

  -- ---- the fields from the last to the first
  cells : Runs bytes (cells_at bytes) (from_cells s)
  unfolding cell_at
  cells = cells_written small (cell_count bytes) (at-end w.end)

  cell_map_is : Runs bytes (cell_map_at bytes) (from_cell_map s)
  unfolding cell_map
  cell_map_is =
      rw (length-list (cell_of bytes) (cell_count bytes), map_of_read bytes w.cell_map_is)
      (number_written small (map_size (cell_count bytes)) (cell_map_at bytes) refl cells)

  pub cell_count_is : Runs bytes (cell_count_at bytes) (from_cell_count s)
  cell_count_is =
      subst (λ (n : ℕ). Runs bytes (cell_count_at bytes) (little_endian 2 n ++ from_cell_map s)) (sym (length-list (cell_of bytes) (cell_count bytes)))
      (number_written small 2 (cell_count_at bytes) refl cell_map_is)

  pub codes : Runs bytes (codes_at bytes) (from_codes s)
  unfolding cell_count_at
  codes = numbers_written small 8 (code_count bytes) (codes_at bytes) cell_count_is

  code_count_is : Runs bytes (rows_at bytes + 12) (from_code_count s)
  code_count_is =
      subst (λ (n : ℕ). Runs bytes (rows_at bytes + 12) (little_endian 2 n ++ from_codes s))
      (sym (length-list (λ (k : ℕ). number 8 (codes_at bytes + 8 * k) bytes) (code_count bytes)))
      (number_written small 2 (rows_at bytes + 12) (omega arith) codes)

  marker_size : Runs bytes (rows_at bytes + 8) (from_marker_size s)
  marker_size = number_written small 4 (rows_at bytes + 8) (omega arith) code_count_is

  cell_size_is : Runs bytes (rows_at bytes + 4) (from_cell_size s)
  cell_size_is = number_written small 4 (rows_at bytes + 4) (omega arith) marker_size

  rows : Runs bytes (rows_at bytes) (from_rows s)
  rows =
      byte_written (rows_at bytes) refl
      (byte_written (rows_at bytes + 1) (omega arith) (byte_written (rows_at bytes + 2) (omega arith) (byte_written (rows_at bytes + 3) (omega arith) cell_size_is)))

  float : {rest : List ℕ} (k at default : ℕ) → Runs bytes (at + 4 * bit m k) rest
      → Runs bytes at (if_set (bit m k) (little_endian 4 (setting (bit m k) (number 4 at bytes) default)) ++ rest)
  float k at default = setting_written (bit m k) 4 at (little_endian 4) (number 4 at bytes) default (bit-small m k) (number_written small 4 at refl)

  least_weight_is : Runs bytes (least_weight_at bytes) (from_least_weight m s)
  unfolding rows_at
  least_weight_is = float 5 (least_weight_at bytes) default_least_weight rows

  table : Runs bytes (table_at bytes) (from_table m s)
  unfolding least_weight_at
  table =
      setting_written (bit m 3) 2044 (table_at bytes) (each (little_endian 4)) (numbers 4 511 (table_at bytes) bytes) patterns (bit-small m 3)
      (numbers_written small 4 511 (table_at bytes)) least_weight_is

  px : Runs bytes (px_at bytes) (from_px m s)
  unfolding table_at
  px = float 2 (px_at bytes) default_px table

  threshold : Runs bytes (threshold_at bytes) (from_threshold m s)
  unfolding px_at
  threshold = float 1 (threshold_at bytes) default_threshold px

  margin : Runs bytes margin_at (from_margin m s)
  unfolding threshold_at
  margin = float 0 margin_at default_margin threshold

  pub bytes_are : bytes ≡ bytes_of m s
  bytes_are = (byte_written 0 refl margin).holds ∙ sym (bytes_parts m s)

  -- ---- their ranges
  float_fits : (k at default : ℕ) → default < 2 ^ 32 → setting (bit m k) (number 4 at bytes) default < 2 ^ 32
  float_fits k at default = setting-either (λ (x : ℕ). x < 2 ^ 32) (bit m k) (number-below bytes small 4 at)

  shot-fits : Fit m s
  shot-fits =
      record {
        map = w.map;
        margin = float_fits 0 margin_at default_margin (lit< tt);
        margin_default = setting_default (bit m 0) (number 4 margin_at bytes) default_margin;
        threshold = float_fits 1 (threshold_at bytes) default_threshold (lit< tt);
        threshold_default = setting_default (bit m 1) (number 4 (threshold_at bytes) bytes) default_threshold;
        px = float_fits 2 (px_at bytes) default_px (lit< tt);
        px_default = setting_default (bit m 2) (number 4 (px_at bytes) bytes) default_px;
        table = setting-either (All (λ (x : ℕ). x < 2 ^ 32)) (bit m 3) (numbers-below bytes small 4 511 (table_at bytes)) patterns-below;
        table_size = table_size bytes;
        table_default = setting_default (bit m 3) (numbers 4 511 (table_at bytes) bytes) patterns;
        least_weight_is = float_fits 5 (least_weight_at bytes) default_least_weight (lit< tt);
        least_weight_default = setting_default (bit m 5) (number 4 (least_weight_at bytes) bytes) default_least_weight;
        rows = small (rows_at bytes);
        cols = small (rows_at bytes + 1);
        bits = small (rows_at bytes + 2);
        border = small (rows_at bytes + 3);
        legacy = refl;
        cell_size_is = number-below bytes small 4 (rows_at bytes + 4);
        marker_size = number-below bytes small 4 (rows_at bytes + 8);
        code_count_is = rw length-list (number-below bytes small 2 (rows_at bytes + 12));
        codes = numbers-below bytes small 8 (code_count bytes) (codes_at bytes);
        cell_count_is = rw length-list (number-below bytes small 2 (cell_count_at bytes));
        cells = cells_fit bytes b (cell_count bytes) (le_of_eq w.end);
        size = subst (λ (l : List ℕ). length l ≤ 65535) bytes_are w.size;
      }

  pub whole_written : WrittenShot bytes (shot bytes)
  whole_written = record { fits = shot-fits; same = bytes_are }
