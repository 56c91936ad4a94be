-- Document 02, 2.7: "turn r and translation t on the old sheet pair with turn (r + 2) mod 4 and (cols − 1, rows − 1) − t on the new, with equal
-- evidence bits. Marker id m of M becomes M − 1 − m". For every legacy shot with even rows and odd cols, of every size, and the shot restated.
use Rattle.std.specs.Prelude.{◌≡◌, true, ℕ, ◌+◌, ◌-◌, ◌%◌, ◌<◌, pos, ◌-ℤ◌, Option, Some, None}
use Rattle.grid_alignment.specs.declared.GridAlignment.{GridAlignment}
use Rattle.board.specs.Layout.{marker_total}
use Rattle.shot_record.specs.Shots.{Shot}
use Rattle.hypothesis.specs.Placements.{placements}
use Rattle.hypothesis.specs.Evidence.{board_in, expected, reported, exact, capacity, contributing_cells}
use Rattle.hypothesis.specs.Rules.{Fits}
use Rattle.legacy_record.specs.Restated.{restated}

-- "A legacy board with even rows and odd cols is a current board turned by half."
pub record TurnedByHalf (s : Shot) : Type 0 where
  pub legacy : s.legacy_pattern ≡ true
  pub even_rows : s.rows % 2 ≡ 0
  pub odd_cols : s.cols % 2 ≡ 1

-- id m of n, counted from the last
abbrev pub from_last : ℕ → Option ℕ → Option ℕ
from_last n (Some m) = Some (n - 1 - m)
from_last n None = None

-- the placement on the new sheet
abbrev pub paired : Shot → GridAlignment → GridAlignment
paired s p = record { turn = (p.turn + 2) % 4; tx = pos (s.cols - 1) -ℤ p.tx; ty = pos (s.rows - 1) -ℤ p.ty }

-- A placement and its pair: in each cell the ids of the markers expected; evidence, reported and exact; capacity; the count of contributing cells. The
-- one fits exactly if the other does.
pub record PairedPlacement (s : Shot) (p : GridAlignment) : Type 0 where
  pub ids : (k : ℕ) → expected (restated s) (paired s p) k ≡ from_last (marker_total (board_in s)) (expected s p k)
  pub evidence : reported (restated s) (paired s p) ≡ reported s p
  pub exact : exact (restated s) (paired s p) ≡ exact s p
  pub capacity : capacity (restated s) (paired s p) ≡ capacity s p
  pub count : contributing_cells (restated s) (paired s p) ≡ contributing_cells s p
  pub fits : Fits s p → Fits (restated s) (paired s p)
  pub fits_only : Fits (restated s) (paired s p) → p.turn < 4 → Fits s p

abbrev pub PairRule : Type 0
PairRule = (s : Shot) → TurnedByHalf s → (p : GridAlignment) → PairedPlacement s p

-- the pairing undoes itself
abbrev pub PairedTwice : Type 0
PairedTwice = (s : Shot) (p : GridAlignment) → p.turn < 4 → paired s (paired s p) ≡ p

-- and both shots have the same placements in the same order, whatever the board
abbrev pub SamePlacements : Type 0
SamePlacements = (s : Shot) → placements (restated s) ≡ placements s
