-- The index has the cell's grid point, weight and sample of the shot. Assumes nothing.
use mathlib.Core.Path.{◌≡◌, sym, ap, ap₂, ◌∙◌, subst}
use Prim.Native.Nat.{ℕ, ◌*◌, ◌≤◌, ◌<◌}
use native.Mathlib.Omega.{arith}
use mathlib.Core.List.{List}
use lib.ListN.{length}
use lib.IntN.{ℤ, nat_abs}
use lib.Ieee.{Float}
use Rattle.grid_alignment.specs.Alignment.{point}
use Rattle.board.specs.declared.Board.{Board}
use Rattle.score_matrix.specs.Scores.{Samples, samples, side}
use Rattle.score_matrix.specs.Likelihoods.{HoldsLikelihoods}
use Rattle.score_matrix.specs.Weights.{weight}
use Rattle.shot_record.specs.Fields.{cell_count}
use Rattle.shot_record.specs.Shots.{Cell, Shot, shot, cell_of}
use Rattle.shot_record.specs.Answers.{config_of, grid_with, border_with, threshold_with}
use Rattle.shot_record.specs.Index.{u_in, v_in, border_in, threshold_in, Entry, HasGrid}
use Rattle.shot_record.proofs.CellReads.{cell_count_is, cell-is}
use Rattle.hypothesis.specs.declared.Inputs.{Inputs}
use Rattle.hypothesis.specs.Placements.{no_cell, cell_total, cell, cell_point}
use Rattle.hypothesis.specs.Evidence.{board_in, table_of, weight_of, samples_of}
use Rattle.hypothesis.specs.Inputs.{inputs_of, SearchInput, Ready}

-- ---- what the search sees of a shot
module _ (s : Shot) (i : Inputs) (is : i ≡ inputs_of s) where
  pub cells_are : i.cells ≡ cell_total s
  cells_are = ap (λ (x : Inputs). x.cells) is

  pub board-is : i.board ≡ board_in s
  board-is = ap (λ (x : Inputs). x.board) is

  pub config_is : i.config ≡ config_of s
  config_is = ap (λ (x : Inputs). x.config) is

  pub bits_are : i.board.bits ≡ s.bits
  bits_are = ap (λ (b : Board). b.bits) board-is

module _ (s : Shot) (i : Inputs) (index : List ℕ) (input : SearchInput s i index) where
  pub few_cells : (0 < i.cells) × (i.cells ≤ 256)
  few_cells =
      let n = cells_are s i input.is in
      (omega (arith, n, input.passed.some_cell), omega (arith, n, input.passed.checked.few))

  module _ (k : ℕ) (h : k < cell_total s) where
    pub few : k < 256
    few = omega (arith, input.passed.checked.few)

    pub point-is : point (u_in index k) (v_in index k) ≡ cell_point s k
    point-is = let c = input.cells k h in ap₂ point c.u c.v

    pub near-point : (nat_abs (u_in index k) ≤ 4096) × (nat_abs (v_in index k) ≤ 4096)
    near-point =
        let n = input.passed.near k in
        let c = input.cells k h in
        (subst (λ (z : ℤ). nat_abs z ≤ 4096) (sym c.u) n.0, subst (λ (z : ℤ). nat_abs z ≤ 4096) (sym c.v) n.1)

    pub weight_is : weight i.config (border_in index k) ≡ weight_of s k
    weight_is = ap₂ weight (config_is s i input.is) (input.cells k h).border

-- ---- the record's cells
same_likelihoods : (t u : List Float) (x y : Samples) (n : ℕ) (l : List Float) → t ≡ u → x ≡ y → HoldsLikelihoods t x n l → HoldsLikelihoods u y n l
same_likelihoods t u x y n l e f h = rw (e, f) at h

module _ (bytes : List ℕ) (i : Inputs) (index : List ℕ) (ready : Ready bytes i index) where
  module _ (k : ℕ) (h : k < cell_total (shot bytes)) where
    inside : k < cell_count bytes
    inside = omega (arith, cell_count_is bytes)

    same : cell_of bytes k ≡ cell (shot bytes) k
    same = sym (cell-is bytes k no_cell inside)

    early : k < 256
    early = omega (arith, ready.passed.checked.few)

    entry : Entry bytes index k
    entry = ready.indexed k inside early

    pub has-grid : HasGrid bytes i.grid_size index k
    has-grid =
        record {
          indexed = ready.indexed;
          whole = ready.whole;
          size_is = ap (λ (x : Inputs). x.grid_size) ready.is;
          inside = inside;
          early = early;
        }

    pub threshold-is : threshold_in index k ≡ threshold_with (cell (shot bytes) k).sample
    threshold-is = entry.threshold ∙ ap (λ (c : Cell). threshold_with c.sample) same

    -- the looked_up sample of a cell
    module _ (threshold : ℕ) (grid : List ℕ) (t : threshold ≡ threshold_in index k) (g : grid ≡ grid_with (cell_of bytes k).sample) where
      abbrev sample : Samples
      sample = samples i.board.bits i.board.border_bits threshold grid

      abbrev Whole : Samples → Type 0
      Whole x = length x.grid ≡ side x.bits x.border * side x.bits x.border

      sample-is : sample ≡ samples_of (shot bytes) k
      sample-is =
          ap (λ (b : Board). samples b.bits b.border_bits threshold grid) (board-is (shot bytes) i ready.is)
          ∙ ap₂ (samples (shot bytes).bits (shot bytes).border) (t ∙ threshold-is)
          (g ∙ ap (λ (c : Cell). grid_with c.sample) same)

      pub grid-whole : Whole (samples_of (shot bytes) k) → Whole sample
      grid-whole h = subst Whole (sym sample-is) h

      pub likelihoods_are : (table : List Float) → table ≡ table_of (shot bytes) → (n : ℕ) (l : List Float) → HoldsLikelihoods table sample n l
          → HoldsLikelihoods (table_of (shot bytes)) (samples_of (shot bytes) k) n l
      likelihoods_are table e n l h = same_likelihoods table (table_of (shot bytes)) sample (samples_of (shot bytes) k) n l e sample-is h

  pub few_bits : i.board.bits ≤ 8
  few_bits = subst (λ (n : ℕ). n ≤ 8) (sym (bits_are (shot bytes) i ready.is)) ready.passed.checked.small

  pub search-input : SearchInput (shot bytes) i index
  search-input =
      record {
        passed = ready.passed;
        is = ready.is;
        cells = λ k h.
            let e = entry k h in
            let c = same k h in
            record {
              u = e.u ∙ ap (λ (x : Cell). x.u) c;
              v = e.v ∙ ap (λ (x : Cell). x.v) c;
              border = e.border ∙ ap (λ (x : Cell). border_with x.sample) c;
            };
      }
