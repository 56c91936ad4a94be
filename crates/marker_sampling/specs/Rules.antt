-- The laws that `proofs/Laws.antt` proves of the definitions, for every m, all corners and all inliers.
use Rattle.std.specs.Prelude.{◌≡◌, Bool, true, List, map, ℕ, ◌*◌, ◌<◌, length, get_or}
use Rattle.grid_alignment.specs.declared.Coord.{Coord}
use Rattle.marker_sampling.specs.Cells.{Corners, whole_cell, point_at, cells}
use Rattle.integers.specs.Distance.{is_within}
use Rattle.marker_sampling.specs.Keys.{key_side}

-- The elements of a list are exactly those of the places below n that pass a test, in increasing order, so
-- without duplicates.
pub record PassingInOrder {A : Type 0} (test : ℕ → Bool) (element : ℕ → A) (n : ℕ) (l : List A) : Type 0 where
  pub places : List ℕ
  pub are : l ≡ map element places
  pub sound : (i : ℕ) → i < length places → (get_or places i 0 < n) × (test (get_or places i 0) ≡ true)
  pub complete : (r : ℕ) → r < n → test r ≡ true → (i : ℕ) × (i < length places) × (get_or places i 0 ≡ r)
  pub rising : (i j : ℕ) → i < j → j < length places → get_or places i 0 < get_or places j 0

-- this holds of the whole cells and all places: `cells` has those below (2m + 1)²
abbrev pub CellsInOrder : Type 0
CellsInOrder = (m : ℕ) (c : Corners) (inliers : List ℕ)
    → PassingInOrder (λ r. whole_cell c inliers (point_at m r)) (point_at m) (key_side m * key_side m) (cells m c inliers)

-- a point with u and v from −m to m has exactly one place
pub record OnePlace (m : ℕ) (p : Coord) : Type 0 where
  pub place : ℕ
  pub inside : place < key_side m * key_side m
  pub there : point_at m place ≡ p
  pub only : (r : ℕ) → r < key_side m * key_side m → point_at m r ≡ p → r ≡ place

abbrev pub EveryPoint : Type 0
EveryPoint = (m : ℕ) (p : Coord) → is_within m p.u ≡ true → is_within m p.v ≡ true → OnePlace m p
