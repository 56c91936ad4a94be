-- Document 01, "The shot record": the shot that a record encodes, and question 21.
use Rattle.std.specs.Prelude.{ℕ, zero, suc, ◌+◌, ◌*◌, ◌^◌, Bool, ◌&&◌, cond, List, [], ◌∷◌, leb, ltb, eqb, length, get_or, ℤ}
use Rattle.std.proofs.Math.Option.{Option, none, some}
use Rattle.std.specs.Int.{w16}
use Rattle.std.proofs.Common.{to_z}
use Rattle.matcher.specs.Codes.{bit}
use Rattle.lent_list.specs.Parts.{part}
use Rattle.score_matrix.specs.Table.{patterns}
use Rattle.shot_record.specs.Fields.{byte, number, map_byte, is_set, margin_at, threshold_at, px_at, table_at, least_weight_at, rows_at, bits_of, border_of}
use Rattle.shot_record.specs.Fields.{code_count, codes_at, cell_count, cell_map, sampled, grid_size, cell_at, Point, point_of, sample_place, threshold_from, grid_from}

-- The sample of a cell. Here and below a float is its 32-bit pattern, so that a shot keeps every bit of its record.
pub record Sample : Type 0 where
  pub fraction : ℕ
  pub threshold : ℕ
  pub grid : List ℕ

pub record Cell : Type 0 where
  pub u : ℤ
  pub v : ℤ
  pub sample : Option Sample

pub record Shot : Type 0 where
  pub minimum_margin : ℕ
  pub border_threshold : ℕ
  pub px_per_square : ℕ
  pub table : List ℕ
  pub least_weight : ℕ
  pub rows : ℕ
  pub cols : ℕ
  pub bits : ℕ
  pub border : ℕ
  pub legacy_pattern : Bool
  pub cell_size : ℕ
  pub marker_size_rel : ℕ
  pub codes : List ℕ
  pub cells : List Cell

-- tabulate: f 0, …, f (n − 1)
unfoldable pub list : {A : Type 0} → (ℕ → A) → ℕ → List A
list f zero = []
list f (suc n) = f 0 ∷ list (λ (k : ℕ). f (suc k)) n

-- n numbers of w bytes each
abbrev pub numbers : ℕ → ℕ → ℕ → List ℕ → List ℕ
numbers w n at bytes = list (λ (k : ℕ). number w (at + w * k) bytes) n

-- a field if its bit is set, else its default
abbrev pub setting : {A : Type 0} → ℕ → A → A → A
setting zero field default = default
setting (suc b) field default = field

-- 0.05, 0.5, 60 and, by document 02, 0
abbrev pub default_margin : ℕ
default_margin = 0x3D4CCCCD

abbrev pub default_threshold : ℕ
default_threshold = 0x3F000000

abbrev pub default_px : ℕ
default_px = 0x42700000

abbrev pub default_least_weight : ℕ
default_least_weight = 0

-- a cell from its grid point, whether it is sampled (not 0), and the offset of its sample
abbrev pub sample_at : ℕ → ℕ → ℕ → List ℕ → Option Sample
sample_at zero grid place bytes = none
sample_at (suc b) grid place bytes =
    some (record { fraction = number 4 place bytes; threshold = byte (threshold_from place) bytes; grid = part (grid_from place) grid bytes })

abbrev pub cell_from : Point → Option Sample → Cell
cell_from p sample = record { u = to_z w16 p.u; v = to_z w16 p.v; sample = sample }

abbrev pub sample_of : List ℕ → ℕ → Option Sample
sample_of bytes k = sample_at (sampled bytes k) (grid_size (bits_of bytes) (border_of bytes)) (sample_place bytes k) bytes

abbrev pub cell_of : List ℕ → ℕ → Cell
cell_of bytes k = cell_from (point_of bytes k) (sample_of bytes k)

abbrev pub shot : List ℕ → Shot
shot bytes =
    record {
      minimum_margin = setting (bit (map_byte bytes) 0) (number 4 margin_at bytes) default_margin;
      border_threshold = setting (bit (map_byte bytes) 1) (number 4 (threshold_at bytes) bytes) default_threshold;
      px_per_square = setting (bit (map_byte bytes) 2) (number 4 (px_at bytes) bytes) default_px;
      table = setting (bit (map_byte bytes) 3) (numbers 4 511 (table_at bytes) bytes) patterns;
      least_weight = setting (bit (map_byte bytes) 5) (number 4 (least_weight_at bytes) bytes) default_least_weight;
      rows = byte (rows_at bytes) bytes;
      cols = byte (rows_at bytes + 1) bytes;
      bits = bits_of bytes;
      border = border_of bytes;
      legacy_pattern = is_set (map_byte bytes) 4;
      cell_size = number 4 (rows_at bytes + 4) bytes;
      marker_size_rel = number 4 (rows_at bytes + 8) bytes;
      codes = numbers 8 (code_count bytes) (codes_at bytes) bytes;
      cells = list (cell_of bytes) (cell_count bytes);
    }

-- the first 512 codes, enough for every marker that a board can have; 0 after the last
abbrev pub first_codes : Shot → List ℕ
first_codes s = list (λ (k : ℕ). get_or s.codes k 0) 512

-- Question 21, the record is well-formed: at most 65,535 bytes, unused bits 0 in both maps, no field cut short and the last one ending the record (it
-- ends where a cell after the last one would start)?
unfoldable pub whole_record : List ℕ → Bool
whole_record bytes =
    leb (length bytes) 65535
    && (ltb (map_byte bytes) 64 && (ltb (cell_map bytes) (2 ^ cell_count bytes) && eqb (cell_at bytes (cell_count bytes)) (length bytes)))

-- The shot that a record encodes, or none if it is refused.
unfoldable pub parse : List ℕ → Option Shot
parse bytes = cond (whole_record bytes) (some (shot bytes)) none
