-- Document 01, Corners: `map_charuco_corners`, with the corners' indices instead of their positions.
use Rattle.std.specs.Prelude.{ℕ, zero, suc, Bool, true, false, ◌&&◌, cond, eqb, length, get_or, ℤ, Float, Option, Some, None}
use mathlib.Core.List.{List, [], ◌∷◌, ◌++◌, flat_map}
use Rattle.std.proofs.Math.Option.{Option as Maybe, none, some}
use Rattle.std.specs.Float.{nan, binary32}
use Rattle.std.specs.Float.Ieee.{to_bits, lt}
use Rattle.grid_alignment.specs.declared.Coord.{Coord}
use Rattle.grid_alignment.specs.declared.GridAlignment.{GridAlignment}
use Rattle.grid_alignment.specs.Alignment.{point, applied}
use Rattle.board.specs.declared.Board.{Board}
use Rattle.board.specs.Layout.{corner_count, corner_at, corner_place, object_point}
use Rattle.lent_list.specs.Front.{up_to}
use Rattle.marker_sampling.specs.Cells.{word, labelled, corners_of}
use Rattle.board.specs.declared.ObjectPoint.{ObjectPoint}
use Rattle.board.specs.declared.Position.{Position}

-- A board, the alignment of the corners, and the input corners: a score and three words of `grid` each, as in the cells entry point.
pub record Input : Type 0 where
  pub board : Board
  pub alignment : GridAlignment
  pub scores : List Float
  pub grid : List ℤ

-- the grid point of input corner k, and the board corner to which the alignment maps it
abbrev pub grid_point : List ℤ → ℕ → Coord
grid_point grid k = point (word (corners_of 0 grid) k 1) (word (corners_of 0 grid) k 2)

abbrev pub board_corner : GridAlignment → List ℤ → ℕ → Coord
board_corner a grid k = applied a (grid_point grid k)

-- the id of the inner corner at a point of the board: absent if there is none
abbrev pub id_at : Board → Coord → Option ℕ
id_at b p = corner_at b.rows b.cols p.u p.v

-- the id of input corner k: absent for a corner without a grid point
unfoldable pub id_of : Board → GridAlignment → List ℤ → ℕ → Option ℕ
id_of b a grid k = cond (labelled (corners_of 0 grid) k) (id_at b (board_corner a grid k)) None

abbrev pub is_id : Option ℕ → ℕ → Bool
is_id (Some m) id = eqb m id
is_id None id = false

abbrev pub bears : Input → ℕ → ℕ → Bool
bears x k id = is_id (id_of x.board x.alignment x.grid k) id

-- Per id the corner of greatest score, the earlier on a tie (argmax): corner k replaces the one chosen before it if its
-- score is greater.
abbrev pub score_of : List Float → ℕ → Float
score_of scores k = get_or scores k nan

abbrev pub greater : List Float → Maybe ℕ → ℕ → Bool
greater scores none k = true
greater scores (some j) k = lt (score_of scores j) (score_of scores k)

abbrev pub replaced : Bool → ℕ → Maybe ℕ → Maybe ℕ
replaced true k o = some k
replaced false k o = o

unfoldable pub chosen_to : Input → ℕ → ℕ → Maybe ℕ
chosen_to x id zero = none
chosen_to x id (suc k) = replaced (bears x k id && greater x.scores (chosen_to x id k) k) k (chosen_to x id k)

abbrev pub chosen : Input → ℕ → Maybe ℕ
chosen x id = chosen_to x id (length x.scores)

-- The results by increasing id: an id and the index of its chosen input corner.
pub record MappedCorner : Type 0 where
  pub id : ℕ
  pub index : ℕ

abbrev pub mapped_if : ℕ → Maybe ℕ → List MappedCorner
mapped_if id none = []
mapped_if id (some k) = record { id = id; index = k } ∷ []

abbrev pub mapped_by : (ℕ → Maybe ℕ) → ℕ → List MappedCorner
mapped_by choice id = mapped_if id (choice id)

abbrev pub mapped : Input → List MappedCorner
mapped x = up_to (mapped_by (chosen x)) (corner_count x.board.rows x.board.cols)

-- The six words of a result: id, input index, the board corner (i, j), the bit patterns of the target's x and y. Every id of the board has a board
-- corner and a target; for others these are 0.
abbrev pub place_words : Option Position → List ℕ
place_words (Some p) = p.i ∷ p.j ∷ []
place_words None = 0 ∷ 0 ∷ []

abbrev pub target_words : Option ObjectPoint → List ℕ
target_words (Some q) = to_bits binary32 q.x ∷ to_bits binary32 q.y ∷ []
target_words None = 0 ∷ 0 ∷ []

abbrev pub corner_words : Board → MappedCorner → List ℕ
corner_words b m =
    m.id ∷ m.index ∷ place_words (corner_place b.rows b.cols m.id) ++ target_words (object_point b.rows b.cols b.cell_size m.id)

abbrev pub words_of_corners : Board → List MappedCorner → List ℕ
words_of_corners b ms = flat_map (corner_words b) ms
