-- What one cell adds to the sums of all placements of a turn: with d moves down, the placement whose frame is moved by (a, b) has its sum at index a
-- × d + b. A score is any function of the marker's id.
use Rattle.std.specs.Prelude.{◌≡◌, Bool, true, cond, List, ℕ, zero, suc, ◌+◌, ◌*◌, ◌%◌, ◌/◌, ◌^◌, ◌≤◌, ◌<◌, ltb, length, get_or, set, pos, Float, Option, Some, None}
use Rattle.std.specs.Float.{nan, binary32}
use Rattle.std.specs.Float.Ieee.{add, sub, mul}
use Rattle.floats.specs.Units.{sum_to}
use Rattle.board.specs.declared.Board.{Board}
use Rattle.board.specs.Numbering.{number_if}
use Rattle.board.specs.Layout.{parity_of, holds_marker, marker_on}
use Rattle.score_matrix.specs.Likelihoods.{picked_from}
use Rattle.hypothesis.specs.declared.sums.Counted.{Counted}
use Rattle.hypothesis.specs.declared.sums.Move.{Move}

-- a sum plus a score's weighted evidence, and the list of sums with it at an index
abbrev pub plus_score : Float → Float → Float → Float → Float
plus_score weight null score sum = add binary32 sum (mul binary32 weight (sub binary32 score null))

abbrev pub with_score : Counted → ℕ → Float → List Float → List Float
with_score c at score sums = set sums at (plus_score c.weight c.null score (get_or sums at nan))

-- the marker on the cell's square after a move by (a, b), if there is one
abbrev pub marker_after : Counted → ℕ → ℕ → Option ℕ
marker_after c a b = marker_on c.board (pos (c.i + a)) (pos (c.j + b))

abbrev pub plus_marker : Counted → (ℕ → Float) → Option ℕ → Float → Float
plus_marker c score None sum = sum
plus_marker c score (Some m) sum = plus_score c.weight c.null (score m) sum

-- a sum with the cell added, if its square then holds a marker
abbrev pub plus_cell : Counted → (ℕ → Float) → ℕ → ℕ → Float → Float
plus_cell c score a b sum = plus_marker c score (marker_after c a b) sum

-- the cell is added to the sums of all moves
abbrev pub Added : Counted → (ℕ → Float) → ℕ → ℕ → List Float → List Float → Type 0
Added c score across down before after =
    (a b : ℕ) → a < across → b < down → get_or after (a * down + b) nan ≡ plus_cell c score a b (get_or before (a * down + b) nan)

-- every move keeps the cell's square on the board, and there is one
pub record Stays (c : Counted) (across down : ℕ) : Type 0 where
  pub bits : c.board.bits ≤ 8
  pub cols : c.board.cols ≤ 32
  pub rows : c.board.rows ≤ 32
  pub wide : c.i + across ≤ c.board.cols
  pub high : c.j + down ≤ c.board.rows
  pub some : 0 < down

-- ---- the moves that put the cell on a marker, ordered by 63 a + b: by a, then by b, which is below 63. Its parity is that of a + b, by which
-- markers alternate.
abbrev pub order : Move → ℕ
order m = 63 * m.a + m.b

abbrev pub marked : Counted → ℕ → ℕ → Bool
marked c a b = holds_marker (parity_of c.board) (c.i + a) (c.j + b)

pub record OnMarker (c : Counted) (down : ℕ) (m : Move) : Type 0 where
  pub row : m.b < down
  pub on : marked c m.a m.b ≡ true

-- the first of them from column a on, where b, 0 or 1, is the first row of column a with a marker; and the first of all
abbrev pub move_from : ℕ → ℕ → ℕ → Move
move_from down a b = cond (ltb b down) (record { a = a; b = b }) (record { a = a + 1; b = 0 })

abbrev pub FirstMove : Counted → ℕ → Move → Type 0
FirstMove c down m = (b : ℕ) × (b < 2) × (marked c 0 b ≡ true) × (m ≡ move_from down 0 b)

-- the next one, and the one that comes x later
abbrev pub next_move : ℕ → Move → Move
next_move down m = cond (ltb (m.b + 2) down) (record { a = m.a; b = m.b + 2 }) (move_from down (m.a + 1) ((m.b + 1) % 2))

unfoldable pub move_after : ℕ → Move → ℕ → Move
move_after down m zero = m
move_after down m (suc x) = next_move down (move_after down m x)

-- in the first n of them the frame stays on the board
abbrev pub Inside : ℕ → ℕ → Move → ℕ → Type 0
Inside across down first n = (y : ℕ) → y < n → (move_after down first y).a < across

-- the cell is added to the sums of the moves whose order is below n
pub record AddedBefore (c : Counted) (score : ℕ → Float) (across down n : ℕ) (before after : List Float) : Type 0 where
  pub size : length after ≡ 1024
  pub done : (a b : ℕ) → a < across → b < down → 63 * a + b < n → get_or after (a * down + b) nan ≡ plus_cell c score a b (get_or before (a * down + b) nan)
  pub left : (a b : ℕ) → a < across → b < down → n ≤ 63 * a + b → get_or after (a * down + b) nan ≡ get_or before (a * down + b) nan

-- ---- scores computed from codes: the sum of the likelihoods that the bits of the rotated code select
abbrev pub code_score : ℕ → List Float → List ℕ → List ℕ → ℕ → Float
code_score bits likelihoods sources codes m = sum_to (picked_from likelihoods sources (get_or codes m 0)) (bits * bits)

abbrev pub Small : ℕ → List ℕ → Type 0
Small n sources = (k : ℕ) → k < n → get_or sources k 0 < 64

-- the id of the marker on a square, if the square holds one
abbrev pub NumberOn : Board → ℕ → ℕ → ℕ → Type 0
NumberOn board i j m = marker_on board (pos i) (pos j) ≡ number_if (holds_marker (parity_of board) i j) m

-- v is the code or the score of the marker after a move, as f maps its id; and those of eight moves, while the frame stays on the board
abbrev pub OfMarker : {A : Type 0} → Counted → (ℕ → A) → Move → A → Type 0
OfMarker c f m v = (k : ℕ) × NumberOn c.board (c.i + m.a) (c.j + m.b) k × (v ≡ f k)

abbrev pub OfEight : {A : Type 0} → Counted → (ℕ → A) → ℕ → ℕ → Move → (ℕ → A) → Type 0
OfEight c f across down first v = (x : ℕ) → x < 8 → Inside across down first (x + 1) → OfMarker c f (move_after down first x) (v x)

-- lanes with a code in lane x
abbrev pub with_code : ℕ → ℕ → List ℕ → List ℕ
with_code x code lanes = set (set lanes x (code % 2 ^ 32)) (x + 8) (code / 2 ^ 32)
