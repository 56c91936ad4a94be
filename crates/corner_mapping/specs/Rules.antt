-- The laws that `proofs/Laws.antt` proves of the definitions, for every input.
use Rattle.std.specs.Prelude.{ℕ, ◌+◌, ◌*◌, ◌<◌, ◌≡◌, true, false, List, [], ◌∷◌, ℤ, pos, length, Float, Some}
use Rattle.std.proofs.Math.Option.{none, some}
use Rattle.std.specs.Float.{binary32}
use Rattle.std.specs.Float.Ieee.{to_bits, mul, of_int, lt}
use Rattle.grid_alignment.specs.declared.Coord.{Coord}
use Rattle.grid_alignment.specs.declared.GridAlignment.{GridAlignment}
use Rattle.matcher.specs.Codes.{by_turn}
use Rattle.grid_alignment.specs.Alignment.{point, applied, corner, corner_alignment, SmallAlignment}
use Rattle.board.specs.declared.Board.{Board}
use Rattle.board.specs.Layout.{marker_on, corner_at, corner_place, corner_count, surrounding_corners, surrounding}
use Rattle.marker_sampling.specs.Cells.{held, index, labelled, corners_of}
use Rattle.marker_sampling.specs.Entry.{finite_scores}
use Rattle.marker_sampling.specs.Rules.{PassingInOrder}
use Rattle.corner_mapping.specs.Corners.{Input, MappedCorner, grid_point, board_corner, id_at, id_of, bears, score_of, chosen, mapped, corner_words}
use Rattle.corner_mapping.specs.Entry.{alignment_answer}
use Rattle.board.specs.Numbering.{position}

-- Of the first n corners, k has the id, none that has it has a greater score, and each earlier one that has it has a lesser one.
pub record GreatestScore (x : Input) (id n k : ℕ) : Type 0 where
  pub inside : k < n
  pub bears_it : bears x k id ≡ true
  pub most : (j : ℕ) → j < n → bears x j id ≡ true → lt (score_of x.scores k) (score_of x.scores j) ≡ false
  pub earlier : (j : ℕ) → j < k → bears x j id ≡ true → lt (score_of x.scores j) (score_of x.scores k) ≡ true

-- this holds of the corner chosen for an id, if scores are finite; and if none is chosen none has the id
abbrev pub ChosenGreatest : Type 0
ChosenGreatest = (x : Input) → finite_scores x.scores ≡ true → (id k : ℕ) → chosen x id ≡ some k → GreatestScore x id (length x.scores) k

abbrev pub NoneBears : Type 0
NoneBears = (x : Input) (id : ℕ) → chosen x id ≡ none → (k : ℕ) → k < length x.scores → bears x k id ≡ false

-- The results are those of the ids for which a corner is chosen, each id once, by increasing id.
abbrev pub result_of : Input → ℕ → MappedCorner
result_of x id = record { id = id; index = index (chosen x id) }

abbrev pub ResultsInOrder : Type 0
ResultsInOrder = (x : Input) → PassingInOrder (λ id. held (chosen x id)) (result_of x) (corner_count x.board.rows x.board.cols) (mapped x)

-- n squares of a size, as a bit pattern
abbrev pub along : Float → ℕ → ℕ
along size n = to_bits binary32 (mul binary32 (of_int binary32 (pos n)) size)

-- The board corner (i, j) of a result: the alignment maps the input corner to it, its id is the result's and it is the id's corner.
pub record Named (x : Input) (id k : ℕ) : Type 0 where
  pub i : ℕ
  pub j : ℕ
  pub there : board_corner x.alignment x.grid k ≡ point (pos i) (pos j)
  pub has_id : corner_at x.board.rows x.board.cols (pos i) (pos j) ≡ Some id
  pub of_id : corner_place x.board.rows x.board.cols id ≡ Some (position i j)
  pub told : corner_words x.board (record { id = id; index = k }) ≡ id ∷ k ∷ i ∷ j ∷ along x.board.cell_size i ∷ along x.board.cell_size j ∷ []

abbrev pub BoardCornersNamed : Type 0
BoardCornersNamed = (x : Input) (id k : ℕ) → bears x k id ≡ true → Named x id k

-- The cell alignment maps cell p to a square. Then with the corner alignment input corner n, which is at corner k of p, has the id of the
-- board corner at corner k + 3 r of that square, after r turns: absent if that is no inner corner.
abbrev pub CornersOfCell : Type 0
CornersOfCell =
    (board : Board) (cells : GridAlignment) (grid : List ℤ) (n : ℕ) (p : Coord) (k : ℕ) →
    labelled (corners_of 0 grid) n ≡ true →
    grid_point grid n ≡ corner k p →
    id_of board (corner_alignment cells) grid n ≡ id_at board (corner (k + 3 * cells.turn) (applied cells p))

-- corner k modulo 4 of four, in the order of `corner`: top left, top right, bottom right, bottom left
abbrev pub of_four : ℕ → ℕ → ℕ → ℕ → ℕ → ℕ
of_four a b c d k = by_turn k a b c d

-- so on the square of a marker with four corners it has the id of one of these
abbrev pub CornersOfMarker : Type 0
CornersOfMarker =
    (board : Board) (cells : GridAlignment) (grid : List ℤ) (n : ℕ) (p : Coord) (k m a b c d : ℕ) →
    labelled (corners_of 0 grid) n ≡ true →
    grid_point grid n ≡ corner k p →
    marker_on board (applied cells p).u (applied cells p).v ≡ Some m →
    surrounding_corners board m ≡ Some (surrounding a b c d) →
    id_of board (corner_alignment cells) grid n ≡ Some (of_four a b c d (k + 3 * cells.turn))

-- the corner alignment of every cell alignment with a turn from 0 to 3 and a translation from −8,191 to 8,191 passes question 18
abbrev pub CornerAlignmentPasses : Type 0
CornerAlignmentPasses =
    (a : GridAlignment) → SmallAlignment 8191 a → alignment_answer (corner_alignment a) ≡ true
