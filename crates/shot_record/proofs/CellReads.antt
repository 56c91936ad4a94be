-- The cells of a record that passes question 21: where they start, that their grids lie in the record, and the ranges of their fields. Assumes
-- nothing.
use mathlib.Core.Path.{◌≡◌, refl}
use Prim.Native.Nat.{ℕ, zero, suc, ◌+◌, ◌≤◌, ◌<◌}
use native.Mathlib.Nat.{le_of_eq}
use native.Mathlib.Omega.{arith}
use mathlib.Core.List.{List, []}
use lib.ListN.{length, get_or, take, drop}
use Rattle.shot_record.specs.declared.cells.Part.{Part}
use Rattle.shot_record.specs.Fields.{bits_of, border_of, grid_size, cell_count, sampled, sample_length, cell_at, sample_place, grid_from}
use Rattle.shot_record.specs.Shots.{Cell, sample_at, cell_of, shot}
use Rattle.shot_record.specs.Answers.{grid_with, part_with}
use Rattle.shot_record.specs.Writing.{FitCell}
use Rattle.shot_record.proofs.Lists.{length-list, get_d_list}
use Rattle.shot_record.proofs.Reading.{Small, starts_rise}
use Rattle.shot_record.proofs.Whole.{Whole}
use Rattle.shot_record.proofs.LittleEndian.{all_bytes}
use Rattle.shot_record.proofs.CellBytes.{cell_fit}

-- ---- a cell without a grid, and one with
pub without-grid : (b grid at : ℕ) (bytes : List ℕ) → b ≡ 0 → [] ≡ grid_with (sample_at b grid at bytes)
without-grid b grid at bytes e = rw e refl

pub with_grid : (b grid at : ℕ) (bytes : List ℕ) → (b ≡ 0 → ⊥) → take grid (drop (grid_from at) bytes) ≡ grid_with (sample_at b grid at bytes)
with_grid zero grid at bytes h = absurd (h refl)
with_grid (suc b) grid at bytes h = refl

pub without-part : (b grid at : ℕ) (bytes : List ℕ) → b ≡ 0 → ◌≡◌ {A = Part} (record { first = 0; end = 0 }) (part_with at grid (sample_at b grid at bytes))
without-part b grid at bytes e = rw e refl

pub with_part : (b grid at : ℕ) (bytes : List ℕ) → (b ≡ 0 → ⊥)
    → ◌≡◌ {A = Part} (record { first = grid_from at; end = grid_from at + grid }) (part_with at grid (sample_at b grid at bytes))
with_part zero grid at bytes h = absurd (h refl)
with_part (suc b) grid at bytes h = refl

sampled-size : (b grid : ℕ) → (b ≡ 0 → ⊥) → sample_length b grid ≡ 5 + grid
sampled-size zero grid h = absurd (h refl)
sampled-size (suc b) grid h = refl

-- ---- the cells of the shot
pub cell_count_is : (bytes : List ℕ) → length (shot bytes).cells ≡ cell_count bytes
cell_count_is bytes = length-list (cell_of bytes) (cell_count bytes)

pub cell-is : (bytes : List ℕ) (k : ℕ) (d : Cell) → k < cell_count bytes → get_or (shot bytes).cells k d ≡ cell_of bytes k
cell-is bytes k d h = get_d_list (cell_of bytes) (cell_count bytes) k d h

-- ---- in a well-formed record
module _ (bytes : List ℕ) (w : Whole bytes) (k : ℕ) (inside : k < cell_count bytes) where
  abbrev size : ℕ
  size = grid_size (bits_of bytes) (border_of bytes)

  pub grid_lies : (sampled bytes k ≡ 0 → ⊥) → grid_from (sample_place bytes k) + size ≤ length bytes
  unfolding cell_at
  grid_lies marked =
      let rise = starts_rise bytes (suc k) (cell_count bytes) inside in
      omega (arith, rise, sampled-size (sampled bytes k) size marked, w.end)

  -- the grid has side² bytes, its greys and the threshold are bytes and the fraction has 32 bits
  pub cell-fits : Small bytes → FitCell size (cell_of bytes k)
  cell-fits s = cell_fit bytes (all_bytes bytes s) (cell_count bytes) (le_of_eq w.end) k inside
