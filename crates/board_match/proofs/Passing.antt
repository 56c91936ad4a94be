-- What the questions ensure, as the search and the accuracy rule require it. Assumes nothing.
use mathlib.Core.Path.{◌≡◌, sym, ap, subst, ◌∙◌}
use mathlib.Core.Bool.{Bool, true, false, not}
use mathlib.Core.List.{List, [], ◌∷◌}
use mathlib.Core.Option.{Option, some, none-ne-some}
use Prim.Native.Nat.{ℕ, zero, suc, ◌*◌, ◌≤◌, ◌<◌}
use lib.Dec.{T, ltb, ltb→lt, nltb→le, lit<, lit≤}
use lib.ListN.{length, get_or, get_or-eq_default}
use lib.IntN.{nat_abs}
use Rattle.score_matrix.specs.Scores.{side}
use Rattle.shot_record.specs.Fields.{bits_of, border_of, grid_size, cell_count}
use Rattle.shot_record.specs.Shots.{Sample, Cell, Shot, shot, whole_record, cell_of}
use Rattle.shot_record.specs.Writing.{Bytes, FitSample, IfSampled}
use Rattle.shot_record.proofs.Reading.{Small}
use Rattle.shot_record.proofs.Whole.{passed}
use Rattle.shot_record.proofs.CellReads.{cell_count_is, cell-is, cell-fits}
use Rattle.hypothesis.specs.Placements.{cell_total, no_cell, cell}
use Rattle.hypothesis.specs.Accuracy.{Checked}
use Rattle.hypothesis.specs.Accuracy as accuracy
use Rattle.hypothesis.specs.Inputs.{PassedShot}
use Rattle.board_match.proofs.Sound.{Sound}

-- after the last cell there is none
past : (s : Shot) (k : ℕ) → cell_total s ≤ k → cell s k ≡ no_cell
past s k h = get_or-eq_default s.cells no_cell h

-- for every k, from every cell
every-cell : (s : Shot) (P : Cell → Type 0) → P no_cell → ((k : ℕ) → k < cell_total s → P (cell s k)) → (k : ℕ) → P (cell s k)
every-cell s P p f k = go (ltb k (cell_total s)) (ltb→lt k (cell_total s)) (nltb→le k (cell_total s))
  where
    go : (b : Bool) → (T b → k < cell_total s) → (T (not b) → cell_total s ≤ k) → P (cell s k)
    go true l m = f k (l tt)
    go false l m = subst P (sym (past s k (m tt))) p

byte-below : (xs : List ℕ) → Bytes xs → (i : ℕ) → get_or xs i 0 < 256
byte-below [] h i = lit< tt
byte-below (x ∷ xs) h zero = h.0
byte-below (x ∷ xs) h (suc i) = byte-below xs h.1 i

module _ (bytes : List ℕ) (small : Small bytes) (w : whole_record bytes ≡ true) (words : ℕ) (s : Sound (shot bytes) words) where
  -- a cell's sample, as the record's bytes and question 13 restrict it
  abbrev SampleSound : Cell → Type 0
  SampleSound c = (x : Sample) → c.sample ≡ some x → accuracy.Sound x

  fitting : (o : Option Sample) (x : Sample) (size : ℕ) → o ≡ some x → IfSampled size o → FitSample size x
  fitting o x size e h = subst (IfSampled size) e h

  sample-sound : (k : ℕ) → SampleSound (cell (shot bytes) k)
  sample-sound = every-cell (shot bytes) SampleSound (λ x e. absurd (none-ne-some x e)) inside
    where
      inside : (k : ℕ) → k < cell_total (shot bytes) → SampleSound (cell (shot bytes) k)
      inside k h x e =
          let l : k < cell_count bytes = subst (λ (n : ℕ). k < n) (cell_count_is bytes) h in
          let f = fitting (cell_of bytes k).sample x (grid_size (bits_of bytes) (border_of bytes))
          (sym (ap (λ (c : Cell). c.sample) (cell-is bytes k no_cell l)) ∙ e) (cell-fits bytes (passed bytes w) k l small).sample in
          record { fraction = s.fraction k h x e; threshold = f.threshold; greys = byte-below x.grid f.greys }

  checked : Checked (shot bytes)
  checked =
      record {
        small = s.board.sized.in_range.bits;
        table = s.table;
        threshold = s.threshold;
        few = s.few_cells;
        cells = sample-sound;
      }

  pub passes : PassedShot (shot bytes)
  passes =
      record {
        checked = checked;
        rows = s.board.sized.in_range.rows;
        cols = s.board.sized.in_range.cols;
        some_cell = s.some-cells;
        near = every-cell (shot bytes) (λ (c : Cell). (nat_abs c.u ≤ 4096) × (nat_abs c.v ≤ 4096)) (lit≤ tt, lit≤ tt) (λ k h. (s.u k h, s.v k h));
        grids = every-cell (shot bytes) (λ (c : Cell). (x : Sample) → c.sample ≡ some x
            → length x.grid ≡ side (shot bytes).bits (shot bytes).border * side (shot bytes).bits (shot bytes).border)
            (λ x e. absurd (none-ne-some x e)) (λ k h x e. s.grid k h x e);
      }
