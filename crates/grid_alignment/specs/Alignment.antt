-- Document 01, "What takes another shape" and Emission: rotations of grid points, cells and their corners.
use Rattle.std.specs.Prelude.{ℕ, ◌^◌, ◌≤◌, ◌<◌, List, [], ◌∷◌, ℤ, pos, negsuc, nat_abs, neg_ℤ, ◌+ℤ◌, ◌-ℤ◌, Float}
use Rattle.std.specs.Float.{binary32}
use Rattle.std.specs.Float.Ieee.{add, mul, of_int}
use Rattle.integers.specs.Least.{lesser}
use Rattle.matcher.specs.Codes.{by_turn}
use Rattle.grid_alignment.specs.declared.Coord.{Coord}
use Rattle.grid_alignment.specs.declared.Matrix.{Matrix}
use Rattle.grid_alignment.specs.declared.GridAlignment.{GridAlignment}

abbrev pub point : ℤ → ℤ → Coord
point u v = record { u = u; v = v }

-- rotation by 90° × turn about (0, 0), the fixed table: 0 maps (u, v) to (u, v), 1 to (v, −u), 2 to (−u, −v), 3 to (−v, u)
unfoldable pub sends : ℕ → Coord → Coord
sends turn p = by_turn turn p (point p.v (neg_ℤ p.u)) (point (neg_ℤ p.u) (neg_ℤ p.v)) (point (neg_ℤ p.v) p.u)

-- the same as a matrix: (u, v) maps to (a × u + b × v, c × u + d × v)
abbrev pub matrix : ℤ → ℤ → ℤ → ℤ → Matrix
matrix a b c d = record { a = a; b = b; c = c; d = d }

unfoldable pub matrix_of : ℕ → Matrix
matrix_of turn =
    by_turn turn (matrix (pos 1) (pos 0) (pos 0) (pos 1)) (matrix (pos 0) (pos 1) (negsuc 0) (pos 0)) (matrix (negsuc 0) (pos 0) (pos 0) (negsuc 0))
    (matrix (pos 0) (negsuc 0) (pos 1) (pos 0))

-- translation, and an alignment: a turn, then a translation
abbrev pub moved : Coord → ℤ → ℤ → Coord
moved p tx ty = point (p.u +ℤ tx) (p.v +ℤ ty)

abbrev pub applied : GridAlignment → Coord → Coord
applied a p = moved (sends a.turn p) a.tx a.ty

-- A cell is named by its top left corner. Its corner k modulo 4, clockwise: top left, top right, bottom right, bottom left.
unfoldable pub corner : ℕ → Coord → Coord
corner k p = by_turn k p (moved p (pos 1) (pos 0)) (moved p (pos 1) (pos 1)) (moved p (pos 0) (pos 1))

-- the componentwise minimum
abbrev pub meet : Coord → Coord → Coord
meet p q = point (lesser p.u q.u) (lesser p.v q.v)

-- the minimum corner of the bounding box of the turned square from (0, 0) to (m, m)
unfoldable pub lowest_point : ℕ → ℕ → Coord
unfolding sends
lowest_point m r =
    meet (meet (sends r (point (pos 0) (pos 0))) (sends r (point (pos m) (pos 0))))
    (meet (sends r (point (pos m) (pos m))) (sends r (point (pos 0) (pos m))))

-- `cell_to_corner_alignment`: a turned cell is named by its new top left corner, so the corners' translation is
-- the cells' less the minimum corner of the turned unit square
abbrev pub corner_alignment : GridAlignment → GridAlignment
corner_alignment a =
    record { turn = a.turn; tx = a.tx -ℤ (lowest_point 1 a.turn).u; ty = a.ty -ℤ (lowest_point 1 a.turn).v }

-- a translation that does not overflow 32 bits with any point of a cell
abbrev pub NearAlignment : GridAlignment → Type 0
NearAlignment a = (nat_abs a.tx ≤ 2 ^ 30) × (nat_abs a.ty ≤ 2 ^ 30)

-- a turn from 0 to 3 and a translation of at most n on each axis
pub record SmallAlignment (n : ℕ) (a : GridAlignment) : Type 0 where
  pub turn : a.turn < 4
  pub tx : nat_abs a.tx ≤ n
  pub ty : nat_abs a.ty ≤ n

-- `cell_rect_corners_at`: the corners of a cell of width s, upstream's f32 operations in order
abbrev pub rect_corners : ℤ → ℤ → Float → List (List Float)
rect_corners u v s =
    let x = mul binary32 (of_int binary32 u) s in
    let y = mul binary32 (of_int binary32 v) s in
    (x ∷ y ∷ []) ∷ (add binary32 x s ∷ y ∷ []) ∷ (add binary32 x s ∷ add binary32 y s ∷ []) ∷ (x ∷ add binary32 y s ∷ []) ∷ []
