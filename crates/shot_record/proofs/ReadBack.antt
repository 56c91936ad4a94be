-- A record that is the encoding of a shot parses to that shot. Assumes nothing.
use mathlib.Core.Path.{◌≡◌, refl, sym, ap, ◌∙◌, subst}
use Prim.Native.Nat.{ℕ, ◌+◌, ◌*◌, ◌^◌, ◌≤◌, ◌<◌}
use mathlib.Core.List.{List, [], ◌∷◌, ◌++◌}
use mathlib.Core.Option.{some}
use native.Mathlib.Omega.{arith}
use lib.ListN.{length}
use Rattle.matcher.specs.Codes.{bit, from_bits}
use Rattle.matcher.proofs.Bits.{bit-small}
use Rattle.score_matrix.specs.Table.{patterns}
use Rattle.shot_record.specs.Fields.{byte, number, map_byte, is_set, margin_at, threshold_at, px_at, table_at, least_weight_at, rows_at, bits_of, border_of, code_count, codes_at}
use Rattle.shot_record.specs.Fields.{cell_count_at, cell_count, cell_map_at, cell_map, map_size, sampled, grid_size, cells_at, cell_at}
use Rattle.shot_record.specs.Shots.{Cell, Shot, list, numbers, setting, default_margin, default_threshold, default_px, default_least_weight, cell_of, shot, parse}
use Rattle.shot_record.specs.Writing.{little_endian, if_set, each, marks, bytes_of, is_sampled, FitCell, Default, Fit, WrittenShot}
use Rattle.shot_record.proofs.Whole.{Whole, parse-whole}
use Rattle.shot_record.proofs.LittleEndian.{le_length}
use Rattle.shot_record.proofs.Runs.{Runs, Read, after, ends, byte-is, number_read, setting_read}
use Rattle.shot_record.proofs.Sequences.{Each, numbers_read, each-length}
use Rattle.shot_record.proofs.CellMaps.{map_below, map-small, map-marks}
use Rattle.shot_record.proofs.CellBytes.{cells_read}
use Rattle.shot_record.proofs.Parts.{from_cells, from_cell_map, from_cell_count, from_codes, from_code_count, from_marker_size, from_rows, from_least_weight, from_table, from_px}
use Rattle.shot_record.proofs.Parts.{from_threshold, from_margin, bytes_parts}

module _ (bytes : List ℕ) (s : Shot) (w : WrittenShot bytes s) where
  abbrev fit : Fit (map_byte bytes) s
  fit = w.fits

  abbrev m : ℕ
  m = map_byte bytes

  -- ---- the settings
  float_read : {rest : List ℕ} {at : ℕ} (k x default : ℕ) → x < 2 ^ 32 → Default (bit m k) x default
      → Runs bytes at (if_set (bit m k) (little_endian 4 x) ++ rest)
      → Read (setting (bit m k) (number 4 at bytes) default) x bytes (at + 4 * bit m k) rest
  float_read {rest} {at} k x default h d =
      setting_read (bit m k) 4 (little_endian 4 x) (number 4 at bytes) default x (bit-small m k) (le_length 4 x) d
      (λ r. (number_read 4 (at + 4) x h refl r).value)

  start : Runs bytes 0 (m ∷ from_margin m s)
  start = record { inside = omega arith; holds = w.same ∙ bytes_parts m s }

  margin : Read (setting (bit m 0) (number 4 margin_at bytes) default_margin) s.minimum_margin bytes (threshold_at bytes) (from_threshold m s)
  unfolding threshold_at
  margin = float_read 0 s.minimum_margin default_margin fit.margin fit.margin_default (after (m ∷ []) 1 start refl)

  threshold : Read (setting (bit m 1) (number 4 (threshold_at bytes) bytes) default_threshold) s.border_threshold bytes (px_at bytes) (from_px m s)
  unfolding px_at
  threshold = float_read 1 s.border_threshold default_threshold fit.threshold fit.threshold_default margin.next

  px : Read (setting (bit m 2) (number 4 (px_at bytes) bytes) default_px) s.px_per_square bytes (table_at bytes) (from_table m s)
  unfolding table_at
  px = float_read 2 s.px_per_square default_px fit.px fit.px_default threshold.next

  table : Read (setting (bit m 3) (numbers 4 511 (table_at bytes) bytes) patterns) s.table bytes (least_weight_at bytes) (from_least_weight m s)
  unfolding least_weight_at
  table =
      setting_read (bit m 3) 2044 (each (little_endian 4) s.table) (numbers 4 511 (table_at bytes) bytes) patterns s.table (bit-small m 3)
      (each-length 4 s.table ∙ ap (λ (n : ℕ). 4 * n) fit.table_size) fit.table_default
      (λ r. ap (λ (n : ℕ). numbers 4 n (table_at bytes) bytes) (sym fit.table_size) ∙ (numbers_read 4 s.table fit.table r).value) px.next

  least_weight_is : Read (setting (bit m 5) (number 4 (least_weight_at bytes) bytes) default_least_weight) s.least_weight bytes (rows_at bytes) (from_rows s)
  unfolding rows_at
  least_weight_is = float_read 5 s.least_weight default_least_weight fit.least_weight_is fit.least_weight_default table.next

  -- ---- the board
  rows : byte (rows_at bytes) bytes ≡ s.rows
  rows = byte-is (rows_at bytes) 0 (omega arith) least_weight_is.next

  cols : byte (rows_at bytes + 1) bytes ≡ s.cols
  cols = byte-is (rows_at bytes + 1) 1 refl least_weight_is.next

  bits : bits_of bytes ≡ s.bits
  bits = byte-is (rows_at bytes + 2) 2 refl least_weight_is.next

  border : border_of bytes ≡ s.border
  border = byte-is (rows_at bytes + 3) 3 refl least_weight_is.next

  legacy : is_set m 4 ≡ s.legacy_pattern
  legacy = sym fit.legacy

  cell_size_is : Read (number 4 (rows_at bytes + 4) bytes) s.cell_size bytes (rows_at bytes + 8) (from_marker_size s)
  cell_size_is =
      number_read 4 (rows_at bytes + 8) s.cell_size fit.cell_size_is (omega arith)
      (after (s.rows ∷ s.cols ∷ s.bits ∷ s.border ∷ []) (rows_at bytes + 4) least_weight_is.next refl)

  marker_size : Read (number 4 (rows_at bytes + 8) bytes) s.marker_size_rel bytes (rows_at bytes + 12) (from_code_count s)
  marker_size = number_read 4 (rows_at bytes + 12) s.marker_size_rel fit.marker_size (omega arith) cell_size_is.next

  -- ---- the codes
  code_count_is : Read (code_count bytes) (length s.codes) bytes (codes_at bytes) (from_codes s)
  code_count_is = number_read 2 (codes_at bytes) (length s.codes) fit.code_count_is (omega arith) marker_size.next

  codes : Read (numbers 8 (code_count bytes) (codes_at bytes) bytes) s.codes bytes (cell_count_at bytes) (from_cell_count s)
  unfolding cell_count_at
  codes =
      subst (λ (n : ℕ). Read (numbers 8 n (codes_at bytes) bytes) s.codes bytes (codes_at bytes + 8 * n) (from_cell_count s)) (sym code_count_is.value)
      (numbers_read 8 s.codes fit.codes code_count_is.next)

  -- ---- the cells
  cell_count_is : Read (cell_count bytes) (length s.cells) bytes (cell_map_at bytes) (from_cell_map s)
  cell_count_is = number_read 2 (cell_map_at bytes) (length s.cells) fit.cell_count_is refl codes.next

  cell_map_is : Read (cell_map bytes) (from_bits (marks s.cells) (length s.cells)) bytes (cells_at bytes) (from_cells s)
  unfolding cell_map
  cell_map_is =
      let n = length s.cells in
      subst (λ (k : ℕ). Read (number (map_size k) (cell_map_at bytes) bytes) (from_bits (marks s.cells) n) bytes (cell_map_at bytes + map_size k)
      (from_cells s)) (sym cell_count_is.value)
      (number_read (map_size n) (cell_map_at bytes + map_size n) (from_bits (marks s.cells) n) (map_below s.cells) refl cell_count_is.next)

  marked : Each (λ (k : ℕ) (c : Cell). FitCell (grid_size (bits_of bytes) (border_of bytes)) c × (sampled bytes k ≡ is_sampled c.sample)) s.cells
  marked =
      rw (bits, border, cell_map_is.value) (map-marks (FitCell (grid_size s.bits s.border)) s.cells fit.cells)

  cells : Read (list (cell_of bytes) (cell_count bytes)) s.cells bytes (cell_at bytes (cell_count bytes)) []
  unfolding cell_at
  cells =
      subst (λ (n : ℕ). Read (list (cell_of bytes) n) s.cells bytes (cell_at bytes n) []) (sym cell_count_is.value)
      (cells_read s.cells marked cell_map_is.next)

  shot-is : shot bytes ≡ s
  shot-is =
      λ i.
      record {
        minimum_margin = margin.value i;
        border_threshold = threshold.value i;
        px_per_square = px.value i;
        table = table.value i;
        least_weight = least_weight_is.value i;
        rows = rows i;
        cols = cols i;
        bits = bits i;
        border = border i;
        legacy_pattern = legacy i;
        cell_size = cell_size_is.value i;
        marker_size_rel = marker_size.value i;
        codes = codes.value i;
        cells = cells.value i;
      }

  is_whole : Whole bytes
  is_whole =
      record {
        size = subst (λ (l : List ℕ). length l ≤ 65535) (sym w.same) fit.size;
        map = fit.map;
        cell_map_is = rw (cell_map_is.value, cell_count_is.value) (map-small s.cells);
        end = ends cells.next;
      }

  pub written_parses : parse bytes ≡ some s
  written_parses = parse-whole bytes is_whole ∙ ap some shot-is

map_byte_of : (m : ℕ) (s : Shot) → map_byte (bytes_of m s) ≡ m
map_byte_of m s = ap map_byte (bytes_parts m s)

pub written : (m : ℕ) (s : Shot) → Fit m s → WrittenShot (bytes_of m s) s
written m s f =
    record {
      fits = subst (λ (n : ℕ). Fit n s) (sym (map_byte_of m s)) f;
      same = ap (λ (n : ℕ). bytes_of n s) (sym (map_byte_of m s));
    }
