-- Document 01, Search: the placements of a shot (candidate grid alignments, upstream's hypotheses), all pairs of turn and translation that put every
-- cell on the board.
use Rattle.std.specs.Prelude.{ℕ, zero, suc, ◌+◌, ◌-◌, ◌*◌, ◌/◌, ◌%◌, List, [], ◌++◌, length, get_or, ℤ, pos, nat_abs, ◌-ℤ◌}
use Rattle.std.proofs.Math.Option.{none}
use Rattle.integers.specs.Least.{least_to, greatest_to}
use Rattle.grid_alignment.specs.declared.Coord.{Coord}
use Rattle.grid_alignment.specs.declared.GridAlignment.{GridAlignment}
use Rattle.grid_alignment.specs.Alignment.{point, sends}
use Rattle.shot_record.specs.Shots.{Cell, Shot, list}
use Rattle.hypothesis.specs.declared.Frame.{Frame}

-- N, the number of cells, sampled or not
abbrev pub cell_total : Shot → ℕ
cell_total s = length s.cells

-- cell k; after the last one an unsampled cell, which adds nothing
abbrev pub no_cell : Cell
no_cell = record { u = pos 0; v = pos 0; sample = none }

abbrev pub cell : Shot → ℕ → Cell
cell s k = get_or s.cells k no_cell

abbrev pub cell_point : Shot → ℕ → Coord
cell_point s k = point (cell s k).u (cell s k).v

-- the grid point of cell k after r quarter turns
abbrev pub turned_point : Shot → ℕ → ℕ → Coord
turned_point s r k = sends r (cell_point s k)

-- The frame: the bounding box of the rotated cells, as its least u and v and its width and height in squares.
abbrev pub squares : ℤ → ℤ → ℕ
squares low high = nat_abs (high -ℤ low) + 1

abbrev pub turned_u : Shot → ℕ → ℕ → ℤ
turned_u s r k = (turned_point s r k).u

abbrev pub turned_v : Shot → ℕ → ℕ → ℤ
turned_v s r k = (turned_point s r k).v

-- the frame of the cells 0 to n
abbrev pub frame_to : Shot → ℕ → ℕ → Frame
frame_to s r n =
    record {
      u = least_to (turned_u s r) n;
      v = least_to (turned_v s r) n;
      width = squares (least_to (turned_u s r) n) (greatest_to (turned_u s r) n);
      height = squares (least_to (turned_v s r) n) (greatest_to (turned_v s r) n);
    }

unfoldable pub frame : Shot → ℕ → Frame
frame s r = frame_to s r (cell_total s - 1)

-- The number of positions of the frame on the board, across and down: 0 where it is too wide or too high.
abbrev pub moves_across : Shot → ℕ → ℕ
moves_across s r = s.cols + 1 - (frame s r).width

abbrev pub moves_down : Shot → ℕ → ℕ
moves_down s r = s.rows + 1 - (frame s r).height

-- The placement of turn r that puts the least corner of the frame on square (a, b).
abbrev pub shifted : Shot → ℕ → ℕ → ℕ → GridAlignment
shifted s r a b = record { turn = r; tx = pos a -ℤ (frame s r).u; ty = pos b -ℤ (frame s r).v }

-- For each turn in order every translation, tx outer, ty inner, ascending.
abbrev pub placement_at : Shot → ℕ → ℕ → GridAlignment
placement_at s r k = shifted s r (k / moves_down s r) (k % moves_down s r)

abbrev pub with_turn : Shot → ℕ → List GridAlignment
with_turn s r = list (placement_at s r) (moves_across s r * moves_down s r)

unfoldable pub with_turns_below : Shot → ℕ → List GridAlignment
with_turns_below s zero = []
with_turns_below s (suc r) = with_turns_below s r ++ with_turn s r

unfoldable pub placements : Shot → List GridAlignment
placements s = with_turns_below s 4
