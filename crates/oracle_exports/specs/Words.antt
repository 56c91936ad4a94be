-- The number that each function returns for a result of the library.
use Rattle.std.specs.Prelude.{ℕ, zero, suc, ◌+◌, ◌*◌, ◌<◌, ◌≡◌, List, [], Bool, not, ◌&&◌, cond, leb, eqb, get_or, length, ℤ, Float, Option, Some, None}
use Rattle.std.specs.Float.{nan, binary32}
use Rattle.std.specs.Float.Ieee.{of_bits}
use Rattle.floats.specs.Units.{nought}
use Rattle.grid_alignment.specs.declared.Coord.{Coord}
use Rattle.grid_alignment.specs.Alignment.{point, corner_alignment, rect_corners}
use Rattle.board.specs.declared.Board.{Board}
use Rattle.score_matrix.specs.declared.BoardMatchConfig.{BoardMatchConfig}
use Rattle.score_matrix.specs.Scores.{side}
use Rattle.board.specs.declared.ObjectPoint.{ObjectPoint}
use Rattle.board.specs.declared.Position.{Position}
use Rattle.board.specs.declared.Surrounding.{Surrounding}

-- 2^64 − 1
abbrev pub absent : ℕ
absent = 18446744073709551615

-- axis 0 is u, every other one v
abbrev pub axis_of : Coord → ℕ → ℤ
axis_of p zero = p.u
axis_of p (suc k) = p.v

-- the translation of the corners, from that of the cells
abbrev pub corner_translation : ℕ → ℤ → ℤ → Coord
corner_translation turn tx ty =
    let a = corner_alignment (record { turn = turn; tx = tx; ty = ty }) in
    point a.tx a.ty

abbrev pub rect_corner : ℤ → ℤ → Float → ℕ → ℕ → Float
rect_corner u v px k axis = get_or (get_or (rect_corners u v px) k []) axis nan

-- a board of which only the layout is used
abbrev pub unit_size : Float
unit_size = of_bits binary32 0x3F800000

abbrev pub board_with : ℕ → ℕ → ℕ → Float → Board
board_with rows cols legacy size =
    record {
      rows = rows;
      cols = cols;
      bits = 1;
      border_bits = 1;
      legacy_pattern = not (eqb legacy 0);
      cell_size = size;
      marker_size_rel = unit_size;
    }

abbrev pub id_word : Option ℕ → ℕ
id_word (Some n) = n
id_word None = absent

abbrev pub place_word : Option Position → ℕ
place_word (Some p) = p.j * 65536 + p.i
place_word None = absent

-- axis 0 is x, every other one y
abbrev pub axis_of_point : Option ObjectPoint → ℕ → Float
axis_of_point (Some q) zero = q.x
axis_of_point (Some q) (suc k) = q.y
axis_of_point None axis = nan

-- corners 0 to 3 are top left, top right, bottom right, bottom left
abbrev pub four_word : Option Surrounding → ℕ → ℕ
four_word (Some s) zero = s.top_left
four_word (Some s) (suc zero) = s.top_right
four_word (Some s) (suc (suc zero)) = s.bottom_right
four_word (Some s) (suc (suc (suc k))) = s.bottom_left
four_word None k = absent

-- the length of the grid is side × side, and the code fits in a word
abbrev pub whole_grid : ℕ → ℕ → ℕ → Bool
whole_grid n bits border = leb bits 8 && eqb n (side bits border * side bits border)

-- the border of a cell, and settings with only those that a weight depends on
abbrev pub border_sample : Bool → Float → Option Float
border_sample sampled fraction = cond sampled (Some fraction) None

abbrev pub weight_settings : Float → Float → BoardMatchConfig
weight_settings threshold least =
    record { px_per_square = nought; alignment_min_margin = nought; cell_weight_border_threshold = threshold; least_weight = least }

-- an array after f of each code was written to the code's index
pub record ScoresWritten (f : ℕ → Float) (codes : List ℕ) (before after : List Float) : Type 0 where
  pub long : length after ≡ length before
  pub holds : (i : ℕ) → i < length codes → i < length before → get_or after i nan ≡ f (get_or codes i 0)
