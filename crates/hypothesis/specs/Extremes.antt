-- The bounding box of the cells, and the frame of a turn from it.
use Rattle.std.specs.Prelude.{ℕ, ◌-◌, List, ℤ}
use Rattle.integers.specs.Least.{lesser, higher, least_to, greatest_to}
use Rattle.grid_alignment.specs.declared.Coord.{Coord}
use Rattle.grid_alignment.specs.Alignment.{point, sends}
use Rattle.shot_record.specs.Shots.{Shot}
use Rattle.shot_record.specs.Index.{u_in, v_in}
use Rattle.hypothesis.specs.declared.Frame.{Frame}
use Rattle.hypothesis.specs.declared.framing.Extremes.{Extremes}
use Rattle.hypothesis.specs.declared.framing.Sides.{Sides}
use Rattle.hypothesis.specs.Placements.{cell_total, cell, squares}

-- minimum and maximum of f 0, …, f n, and with one more number
abbrev pub extremes_to : (ℕ → ℤ) → ℕ → Extremes
extremes_to f n = record { least = least_to f n; greatest = greatest_to f n }

abbrev pub extremes_with : Extremes → ℤ → Extremes
extremes_with e x = record { least = lesser e.least x; greatest = higher e.greatest x }

-- the coordinates of the cells, and their bounding box
abbrev pub us : Shot → ℕ → ℤ
us s k = (cell s k).u

abbrev pub vs : Shot → ℕ → ℤ
vs s k = (cell s k).v

abbrev pub sides_by : (ℕ → ℤ) → (ℕ → ℤ) → ℕ → Sides
sides_by u v n = record { u = extremes_to u (n - 1); v = extremes_to v (n - 1) }

abbrev pub sides_of : Shot → Sides
sides_of s = sides_by (us s) (vs s) (cell_total s)

-- the bounding box of the first n cells of an index
abbrev pub sides_in : List ℕ → ℕ → Sides
sides_in index n = sides_by (u_in index) (v_in index) n

-- the frame with two opposite corners p and q
abbrev pub frame_between : Coord → Coord → Frame
frame_between p q =
    record { u = lesser p.u q.u; v = lesser p.v q.v; width = squares p.u q.u; height = squares p.v q.v }

-- the frame after r quarter turns
abbrev pub frame_by : ℕ → Sides → Frame
frame_by r e = frame_between (sends r (point e.u.least e.v.least)) (sends r (point e.u.greatest e.v.greatest))
