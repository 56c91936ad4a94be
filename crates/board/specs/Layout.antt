-- The layout of a ChArUco board, from OpenCV's ChArUco documents and document 01, Board. Squares (i, j): column i rightward, row j downward.
use Rattle.std.specs.Prelude.{ℕ, suc, ◌+◌, ◌%◌, Bool, cond, ◌&&◌, ℤ, pos, ltb, eqb, Float, Option, Some, None}
use Rattle.std.specs.Float.{binary32}
use Rattle.std.specs.Float.Ieee.{mul, of_int}
use Rattle.board.specs.declared.Board.{Board}
use Rattle.board.specs.Numbering.{number_at, number_atℤ, total, place_numbered}
use Rattle.board.specs.declared.ObjectPoint.{ObjectPoint}
use Rattle.board.specs.declared.Position.{Position}
use Rattle.board.specs.declared.Surrounding.{Surrounding}

-- The squares that have markers: those whose i + j has the parity p.
abbrev pub holds_marker : ℕ → ℕ → ℕ → Bool
holds_marker p i j = eqb ((i + j) % 2) p

abbrev pub even_parity : ℕ
even_parity = 0

abbrev pub odd_parity : ℕ
odd_parity = 1

-- The only definition of a board's parity. Document 01: "Squares with i + j odd hold markers." Document 02: a legacy board with an even row count
-- begins with a white square at the top left, "There the markers sit on squares with i + j even … With an odd row count nothing differs."
-- Folded: apart from the worked examples, no proof of a crate above depends on which one it is.
unfoldable pub parity_of : Board → ℕ
parity_of b = cond (b.legacy_pattern && eqb (b.rows % 2) 0) even_parity odd_parity

-- Markers are numbered in row-major order from 0.
abbrev pub marker_count : ℕ → ℕ → ℕ → ℕ
marker_count p rows cols = total (holds_marker p) cols rows

abbrev pub marker_at : ℕ → ℕ → ℕ → ℤ → ℤ → Option ℕ
marker_at p rows cols = number_atℤ (holds_marker p) cols rows

abbrev pub square_of : ℕ → ℕ → ℕ → ℕ → Option Position
square_of p rows cols id = place_numbered (holds_marker p) cols rows id

-- Corner (i, j) is the top left corner of square (i, j). The inner corners are those with 1 ≤ i < cols and 1 ≤ j < rows;
-- they are numbered in row-major order from 0.
abbrev pub inner : ℕ → ℕ → Bool
inner i j = ltb 0 i && ltb 0 j

abbrev pub corner_count : ℕ → ℕ → ℕ
corner_count rows cols = total inner cols rows

abbrev pub corner_at : ℕ → ℕ → ℤ → ℤ → Option ℕ
corner_at rows cols = number_atℤ inner cols rows

abbrev pub corner_place : ℕ → ℕ → ℕ → Option Position
corner_place rows cols id = place_numbered inner cols rows id

-- the point of inner corner (i, j) in the board's plane: f32 products
abbrev pub scaled_point : Float → Option Position → Option ObjectPoint
scaled_point size (Some p) =
    Some (record { x = mul binary32 (of_int binary32 (pos p.i)) size; y = mul binary32 (of_int binary32 (pos p.j)) size })
scaled_point size None = None

abbrev pub object_point : ℕ → ℕ → Float → ℕ → Option ObjectPoint
object_point rows cols size id = scaled_point size (corner_place rows cols id)

abbrev pub surrounding : ℕ → ℕ → ℕ → ℕ → Surrounding
surrounding a b c d = record { top_left = a; top_right = b; bottom_right = c; bottom_left = d }

-- the four corners of a square: top left, top right, bottom right, bottom left, if all are inner
abbrev pub all_four : Option ℕ → Option ℕ → Option ℕ → Option ℕ → Option Surrounding
all_four (Some a) (Some b) (Some c) (Some d) = Some (surrounding a b c d)
all_four (Some a) (Some b) (Some c) None = None
all_four (Some a) (Some b) None d = None
all_four (Some a) None c d = None
all_four None b c d = None

abbrev pub around : ℕ → ℕ → Option Position → Option Surrounding
around rows cols (Some p) =
    let corner = number_at inner cols rows in
    all_four (corner p.i p.j) (corner (suc p.i) p.j) (corner (suc p.i) (suc p.j)) (corner p.i (suc p.j))
around rows cols None = None

-- those of a marker's square
abbrev pub four_corners : ℕ → ℕ → ℕ → ℕ → Option Surrounding
four_corners p rows cols id = around rows cols (square_of p rows cols id)

-- ---- the same of a board
abbrev pub marker_total : Board → ℕ
marker_total b = marker_count (parity_of b) b.rows b.cols

abbrev pub marker_on : Board → ℤ → ℤ → Option ℕ
marker_on b = marker_at (parity_of b) b.rows b.cols

abbrev pub marker_square : Board → ℕ → Option Position
marker_square b = square_of (parity_of b) b.rows b.cols

abbrev pub surrounding_corners : Board → ℕ → Option Surrounding
surrounding_corners b = four_corners (parity_of b) b.rows b.cols
