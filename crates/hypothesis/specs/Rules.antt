-- Laws of the placements, of their evidence and of the counts of their contributing cells.
use Rattle.std.specs.Prelude.{ℕ, ◌+◌, ◌-◌, ◌*◌, ◌≤◌, ◌<◌, ◌≡◌, ◌⊎◌, Bool, true, false, ◌&&◌, cond, leb, ltb, length, ℤ, pos, negsuc, ◌<ℤ◌, Some}
use Rattle.std.proofs.Math.Option.{none, some}
use Rattle.std.proofs.Math.ListN.{get_elem?}
use Rattle.std.specs.Float.Ieee.{lt}
use Rattle.floats.specs.Units.{nought}
use Rattle.grid_alignment.specs.declared.Coord.{Coord}
use Rattle.grid_alignment.specs.declared.GridAlignment.{GridAlignment}
use Rattle.grid_alignment.specs.Alignment.{applied}
use Rattle.board.specs.declared.Board.{Board}
use Rattle.board.specs.Numbering.{count_passing}
use Rattle.board.specs.Layout.{parity_of, holds_marker}
use Rattle.shot_record.specs.Shots.{Shot}
use Rattle.ranking.specs.declared.Evidence.TheVariants as evidence
use Rattle.hypothesis.specs.Placements.{cell_total, cell_point, frame, placements}
use Rattle.hypothesis.specs.Evidence.{board_in, weight_of, expected, contributing_cells, reported, exact}

-- a point on a square of the board
pub record OnBoard (s : Shot) (p : Coord) : Type 0 where
  pub i : ℕ
  pub j : ℕ
  pub column : p.u ≡ pos i
  pub row : p.v ≡ pos j
  pub inside : (i < s.cols) × (j < s.rows)

-- a turn and a translation that put all cells on the board
abbrev pub Fits : Shot → GridAlignment → Type 0
Fits s p = (p.turn < 4) × ((k : ℕ) → k < cell_total s → OnBoard s (applied p (cell_point s k)))

-- lexicographic order of turn, tx, ty
abbrev pub Precedes : GridAlignment → GridAlignment → Type 0
Precedes p q = (p.turn < q.turn) ⊎ ((p.turn ≡ q.turn) × ((p.tx <ℤ q.tx) ⊎ ((p.tx ≡ q.tx) × (p.ty <ℤ q.ty))))

-- document 01's count: the sum, over turns that fit, of (cols − width + 1) × (rows − height + 1)
abbrev pub count_with : Shot → ℕ → ℕ
count_with s r =
    let f = frame s r in
    cond (leb f.width s.cols && leb f.height s.rows) ((s.cols - f.width + 1) * (s.rows - f.height + 1)) 0

abbrev pub count_of : Shot → ℕ
count_of s = count_with s 0 + count_with s 1 + count_with s 2 + count_with s 3

-- the placements are exactly those that fit, each once, in order, and as many as document 01 states
pub record PlacementsInOrder (s : Shot) : Type 0 where
  pub sound : (k : ℕ) (p : GridAlignment) → get_elem? (placements s) k ≡ some p → Fits s p
  pub complete : (p : GridAlignment) → Fits s p → (k : ℕ) × (get_elem? (placements s) k ≡ some p)
  pub rising : (i j : ℕ) (p q : GridAlignment) → i < j → get_elem? (placements s) i ≡ some p → get_elem? (placements s) j ≡ some q → Precedes p q
  pub count : length (placements s) ≡ count_of s

abbrev pub PlacementsRule : Type 0
PlacementsRule = (s : Shot) → 0 < cell_total s → PlacementsInOrder s

-- a contributing cell: a marker is expected in it, and its weight is above 0
pub record Contributes (s : Shot) (p : GridAlignment) (k : ℕ) : Type 0 where
  pub inside : k < cell_total s
  pub id : ℕ
  pub marker : expected s p k ≡ Some id
  pub weight : lt nought (weight_of s k) ≡ true

-- evidence, reported and exact, is none exactly when no cell contributes
pub record NoneExactly (s : Shot) (p : GridAlignment) : Type 0 where
  pub reported_if : ((k : ℕ) → Contributes s p k → ⊥) → reported s p ≡ evidence.Absent
  pub reported_only_if : reported s p ≡ evidence.Absent → (k : ℕ) → Contributes s p k → ⊥
  pub exact_if : ((k : ℕ) → Contributes s p k → ⊥) → exact s p ≡ none
  pub exact_only_if : exact s p ≡ none → (k : ℕ) → Contributes s p k → ⊥

abbrev pub NoneRule : Type 0
NoneRule = (s : Shot) (p : GridAlignment) → NoneExactly s p

-- ---- document 02, 2.5: "the number of cells with weight above 0 that land on a marker square"
abbrev pub is_marker_square : Board → ℤ → ℤ → Bool
is_marker_square b (pos i) (pos j) = ltb i b.cols && (ltb j b.rows && holds_marker (parity_of b) i j)
is_marker_square b (pos i) (negsuc j) = false
is_marker_square b (negsuc i) j = false

abbrev pub lands_on_marker : Shot → GridAlignment → ℕ → Bool
lands_on_marker s p k = let q = applied p (cell_point s k) in is_marker_square (board_in s) q.u q.v

-- by weight and square, without the ids of markers by which `contributions` goes
abbrev pub is_contributing : Shot → GridAlignment → ℕ → Bool
is_contributing s p k = lt nought (weight_of s k) && lands_on_marker s p k

-- the count is that number, at most N, and evidence is none exactly when it is 0
pub record CountsCells (s : Shot) (p : GridAlignment) : Type 0 where
  pub number : contributing_cells s p ≡ count_passing (is_contributing s p) (cell_total s)
  pub at_most : contributing_cells s p ≤ cell_total s
  pub none_if : contributing_cells s p ≡ 0 → reported s p ≡ evidence.Absent
  pub none_only_if : reported s p ≡ evidence.Absent → contributing_cells s p ≡ 0

abbrev pub CountRule : Type 0
CountRule = (s : Shot) (p : GridAlignment) → CountsCells s p
