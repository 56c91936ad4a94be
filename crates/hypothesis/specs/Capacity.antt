-- The capacity of a placement, cell by cell of an index.
use Rattle.std.specs.Prelude.{cond, List, ℕ, zero, suc, Float, Option, Some, None}
use Rattle.std.specs.Float.{binary32}
use Rattle.std.specs.Float.Ieee.{add, mul, neg, lt}
use Rattle.floats.specs.Units.{nought}
use Rattle.grid_alignment.specs.declared.Coord.{Coord}
use Rattle.grid_alignment.specs.declared.GridAlignment.{GridAlignment}
use Rattle.grid_alignment.specs.Alignment.{point, applied}
use Rattle.board.specs.declared.Board.{Board}
use Rattle.board.specs.Layout.{marker_on}
use Rattle.score_matrix.specs.Scores.{null_score}
use Rattle.score_matrix.specs.Weights.{weight}
use Rattle.shot_record.specs.Index.{u_in, v_in, border_in}
use Rattle.hypothesis.specs.declared.Inputs.{Inputs}

-- with a cell of the given weight, in which a marker or none is expected
abbrev pub with_marker : Float → Float → Float → Option ℕ → Float
with_marker total most weight None = total
with_marker total most weight (Some m) = cond (lt nought weight) (add binary32 total (mul binary32 weight most)) total

abbrev pub marker_under : Board → Coord → Option ℕ
marker_under board q = marker_on board q.u q.v

-- with cell k of an index
abbrev pub with_cell : Float → Float → Inputs → GridAlignment → List ℕ → ℕ → Float
with_cell total most i p index k =
    with_marker total most (weight i.config (border_in index k)) (marker_under i.board (applied p (point (u_in index k) (v_in index k))))

-- of the first n cells
unfoldable pub capacity_to : Inputs → GridAlignment → List ℕ → ℕ → Float
capacity_to i p index zero = nought
capacity_to i p index (suc k) = with_cell (capacity_to i p index k) (neg (null_score i.board.bits)) i p index k
