-- The capacity of a placement, cell by cell: a cell of the index adds what the shot's cell adds. Assumes nothing.
use mathlib.Core.Path.{◌≡◌, refl, sym, ap, ap₂, ◌∙◌}
use Prim.Native.Nat.{ℕ, zero, suc, ◌≤◌, ◌<◌}
use native.Mathlib.Nat.{le_refl}
use native.Mathlib.Omega.{arith}
use mathlib.Core.Bool.{Bool, true, false, cond}
use mathlib.Core.List.{List, [], ◌∷◌, foldl, foldl-append}
use lib.Ieee.{Float, binary32, add, mul, neg, lt}
use Rattle.floats.specs.Units.{nought}
use Rattle.grid_alignment.specs.declared.Coord.{Coord}
use Rattle.grid_alignment.specs.declared.GridAlignment.{GridAlignment}
use Rattle.grid_alignment.specs.Alignment.{applied}
use Rattle.board.specs.declared.Board.{Board}
use Rattle.score_matrix.specs.Scores.{Samples, null_score}
use Rattle.lent_list.specs.Front.{up_to}
use Rattle.shot_record.specs.Shots.{Shot}
use Rattle.hypothesis.specs.declared.Inputs.{Inputs}
use Rattle.hypothesis.specs.Placements.{cell_total}
use Rattle.hypothesis.specs.Evidence.{weight_of, samples_of, expected, Contribution, contributed_with, contributed, contributions_to, capacity_term}
use Rattle.hypothesis.specs.Evidence.{capacity_sum, capacity}
use Rattle.hypothesis.specs.Inputs.{SearchInput}
use Rattle.hypothesis.specs.Capacity.{with_marker, marker_under, with_cell, capacity_to}
use Rattle.hypothesis.proofs.IndexedCells.{cells_are, board-is, point-is, weight_is}
use Rattle.std.specs.Prelude.{Option, Some, None}

-- ---- one more cell
module _ (s : Shot) (total most : Float) (most_is : most ≡ neg (null_score s.bits)) where
  abbrev with_cells : List Contribution → Float
  with_cells cs = foldl (λ (x : Float) (c : Contribution). add binary32 x (capacity_term s c)) total cs

  if_counted : (b : Bool) (c : Contribution) → cond b (add binary32 total (mul binary32 c.weight most)) total ≡ with_cells (cond b (c ∷ []) [])
  if_counted true c = ap (λ (x : Float). add binary32 total (mul binary32 c.weight x)) most_is
  if_counted false c = refl

  marker_step : (w : Float) (x : Samples) (m : Option ℕ) → with_marker total most w m ≡ with_cells (contributed_with w x m)
  marker_step w x None = refl
  marker_step w x (Some m) = if_counted (lt nought w) (record { weight = w; samples = x; id = m })

module _ (s : Shot) (i : Inputs) (index : List ℕ) (input : SearchInput s i index) (p : GridAlignment) where
  -- the sum with cell k
  capacity_step : (k : ℕ) → k < cell_total s → (total most : Float) → total ≡ capacity_sum s (contributions_to s p k)
      → most ≡ neg (null_score i.board.bits) → with_cell total most i p index k ≡ capacity_sum s (contributions_to s p (suc k))
  unfolding up_to contributed expected
  capacity_step k h total most so_far most_is =
      let e = board-is s i input.is in
      let null = most_is ∙ ap (λ (b : Board). neg (null_score b.bits)) e in
      ap₂ (with_marker total most) (weight_is s i index input k h)
      (ap₂ (λ (b : Board) (q : Coord). marker_under b (applied p q)) e (point-is s i index input k h))
      ∙ marker_step s total most null (weight_of s k) (samples_of s k) (expected s p k)
      ∙ ap (λ (x : Float). with_cells s x most null (contributed s p k)) so_far
      ∙ sym (foldl-append (λ (x : Float) (c : Contribution). add binary32 x (capacity_term s c)) nought (contributions_to s p k) (contributed s p k))

  capacity_to_lem : (k : ℕ) → k ≤ cell_total s → capacity_to i p index k ≡ capacity_sum s (contributions_to s p k)
  unfolding capacity_to
  capacity_to_lem zero h = unfold up_to in refl
  capacity_to_lem (suc k) h = capacity_step k (omega (arith, h)) (capacity_to i p index k) (neg (null_score i.board.bits)) (capacity_to_lem k (omega (arith, h))) refl

  -- all cells
  pub capacity-is : capacity_to i p index i.cells ≡ capacity s p
  unfolding capacity
  capacity-is = ap (capacity_to i p index) (cells_are s i input.is) ∙ capacity_to_lem (cell_total s) (le_refl (cell_total s))
