-- How the entry points fit together, for every placed record: the laws of `proofs/Laws.antt`.
use Rattle.std.specs.Prelude.{ℕ, ◌+◌, ◌*◌, ◌<◌, ◌≡◌, true, List, ℤ, get_or, Ok}
use Rattle.grid_alignment.specs.declared.Coord.{Coord}
use Rattle.grid_alignment.specs.Alignment.{applied, corner}
use Rattle.board.specs.declared.Board.{Board}
use Rattle.board_match.specs.declared.Match.{Match}
use Rattle.board_match.specs.Match.{match_answer}
use Rattle.marker_sampling.specs.Cells.{labelled, corners_of}
use Rattle.corner_mapping.specs.Corners.{grid_point, id_at, id_of}
use Rattle.corner_mapping.specs.Entry.{alignment_answer}

pub record MatchedCorners (m : Match) : Type 0 where
  -- the corner alignment of the match passes question 18
  pub pass : alignment_answer m.corners ≡ true
  -- it maps the corners of a cell to the corners of the square to which the match maps the cell: after r turns corner k to corner k + 3 r
  pub land : (k : ℕ) (p : Coord) → applied m.corners (corner k p) ≡ corner (k + 3 * m.best.alignment.turn) (applied m.best.alignment p)
  -- and an input corner there gets the id of the board corner there, whatever is on the square: absent if it is no inner corner
  pub ids : (board : Board) (grid : List ℤ) (n : ℕ) (p : Coord) (k : ℕ) → labelled (corners_of 0 grid) n ≡ true → grid_point grid n ≡ corner k p
      → id_of board m.corners grid n ≡ id_at board (corner (k + 3 * m.best.alignment.turn) (applied m.best.alignment p))

abbrev pub CornersOfMatch : Type 0
CornersOfMatch =
    (bytes lent : List ℕ) → ((i : ℕ) → get_or bytes i 0 < 256) → (m : Match) → match_answer bytes lent ≡ Ok m → MatchedCorners m
