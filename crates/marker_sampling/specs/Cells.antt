-- Document 01, Cells: `build_corner_map`, then `build_marker_cells`, with the corners' indices instead of their positions.
use Rattle.std.specs.Prelude.{ℕ, ◌+◌, ◌*◌, ◌/◌, ◌%◌, Bool, true, false, not, ◌&&◌, cond, ltb, get_or, ℤ, pos, ◌-ℤ◌}
use mathlib.Core.List.{List, [], ◌∷◌, flat_map}
use Rattle.std.proofs.Math.Option.{Option, none, some}
use Rattle.integers.specs.Distance.{same}
use Rattle.lent_list.specs.Front.{up_to}
use Rattle.grid_alignment.specs.declared.Coord.{Coord}
use Rattle.grid_alignment.specs.Alignment.{point, corner}

-- The corners that inliers select from: their number, and three words of `grid` for each: nonzero if the corner has a
-- grid point, its u and its v. Words past the end are 0, so a corner without words has no grid point.
pub record Corners : Type 0 where
  pub count : ℕ
  pub grid : List ℤ

abbrev pub corners_of : ℕ → List ℤ → Corners
corners_of count grid = record { count = count; grid = grid }

abbrev pub word : Corners → ℕ → ℕ → ℤ
word c k w = get_or c.grid (3 * k + w) (pos 0)

abbrev pub labelled : Corners → ℕ → Bool
labelled c k = not (same (word c k 0) (pos 0))

-- index k is that of a corner at p: an index past the end and a corner without a grid point are skipped
abbrev pub stands : Corners → ℕ → Coord → Bool
stands c k p = ltb k c.count && (labelled c k && (same (word c k 1) p.u && same (word c k 2) p.v))

-- the corner at a grid point: of several inliers the last
abbrev pub later : Option ℕ → Bool → ℕ → Option ℕ
later (some j) stood k = some j
later none true k = some k
later none false k = none

unfoldable pub holder : Corners → List ℕ → Coord → Option ℕ
holder c [] p = none
holder c (k ∷ inliers) p = later (holder c inliers p) (stands c k p) k

abbrev pub held : Option ℕ → Bool
held none = false
held (some k) = true

abbrev pub index : Option ℕ → ℕ
index none = 0
index (some k) = k

-- A cell is whole if each of its four points has an inlier: top left, top right, bottom right, bottom left.
abbrev pub has_corner : Corners → List ℕ → Coord → ℕ → Bool
has_corner c inliers p k = held (holder c inliers (corner k p))

abbrev pub whole_cell : Corners → List ℕ → Coord → Bool
whole_cell c inliers p = has_corner c inliers p 0 && (has_corner c inliers p 1 && (has_corner c inliers p 2 && has_corner c inliers p 3))

-- the points with u and v from −m to m by their row-major index (place), 0 to (2m + 1)² − 1
abbrev pub point_at : ℕ → ℕ → Coord
point_at m r = point (pos (r % (2 * m + 1)) -ℤ pos m) (pos (r / (2 * m + 1)) -ℤ pos m)

-- the cell at a place, if it is whole
abbrev pub whole_at : ℕ → Corners → List ℕ → ℕ → List Coord
whole_at m c inliers r = cond (whole_cell c inliers (point_at m r)) (point_at m r ∷ []) []

-- the whole cells in row-major order
abbrev pub cells : ℕ → Corners → List ℕ → List Coord
cells m c inliers = up_to (whole_at m c inliers) ((2 * m + 1) * (2 * m + 1))

-- The six words of a cell: its point, then the indices of its four corners.
abbrev pub corner_index : Corners → List ℕ → Coord → ℕ → ℤ
corner_index c inliers p k = pos (index (holder c inliers (corner k p)))

abbrev pub cell_words : Corners → List ℕ → Coord → List ℤ
cell_words c inliers p =
    p.u ∷ p.v ∷ corner_index c inliers p 0 ∷ corner_index c inliers p 1 ∷ corner_index c inliers p 2 ∷ corner_index c inliers p 3 ∷ []

abbrev pub words_of_cells : Corners → List ℕ → List Coord → List ℤ
words_of_cells c inliers ps = flat_map (cell_words c inliers) ps
