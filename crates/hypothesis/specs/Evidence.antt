-- Document 01, Search: the contributing cells of a placement, their number (document 02, 2.5), its evidence (log-likelihood ratio), reported and
-- exact, and its capacity.
use Rattle.std.specs.Prelude.{ℕ, cond, length, get_or, ℤ, pos, ◌+ℤ◌, Float, Option, Some, None}
use mathlib.Core.List.{List, [], ◌∷◌, map, foldl}
use Rattle.std.proofs.Math.Option.{Option as Maybe, none, some}
use Rattle.std.specs.Float.{binary32}
use Rattle.std.specs.Float.Ieee.{add, mul, neg, lt}
use Rattle.floats.specs.Units.{nought}
use Rattle.matcher.specs.Codes.{turned}
use Rattle.grid_alignment.specs.declared.GridAlignment.{GridAlignment}
use Rattle.grid_alignment.specs.Alignment.{applied}
use Rattle.board.specs.declared.Board.{Board}
use Rattle.board.specs.Layout.{marker_on}
use Rattle.board.specs.Questions.{board_of}
use Rattle.score_matrix.specs.Scores.{Samples, samples, null_score}
use Rattle.score_matrix.specs.Weights.{weight}
use Rattle.score_matrix.specs.Accuracy.{weighted, exact_weighted}
use Rattle.lent_list.specs.Front.{up_to}
use Rattle.shot_record.specs.Shots.{Sample, Shot}
use Rattle.shot_record.specs.Answers.{of_pattern, config_of, spec_of, grid_with, border_with, threshold_with}
use Rattle.ranking.specs.declared.Evidence.{Evidence}
use Rattle.ranking.specs.declared.Evidence.TheVariants as evidence
use Rattle.hypothesis.specs.Placements.{cell_total, cell, cell_point}

-- the board, the likelihood table, and the code of a marker after r quarter turns
abbrev pub board_in : Shot → Board
board_in s = board_of (spec_of s)

abbrev pub table_of : Shot → List Float
table_of s = map of_pattern s.table

abbrev pub code_of : Shot → ℕ → ℕ → ℕ
code_of s r m = turned s.bits r (get_or s.codes m 0)

-- The weight of cell k, and its samples. An unsampled cell has weight 0, threshold 0 and an empty grid.
abbrev pub weight_with : Shot → Maybe Sample → Float
weight_with s o = weight (config_of s) (border_with o)

abbrev pub samples_with : Shot → Maybe Sample → Samples
samples_with s o = samples s.bits s.border (threshold_with o) (grid_with o)

abbrev pub weight_of : Shot → ℕ → Float
weight_of s k = weight_with s (cell s k).sample

abbrev pub samples_of : Shot → ℕ → Samples
samples_of s k = samples_with s (cell s k).sample

-- the marker that a placement expects in cell k
unfoldable pub expected : Shot → GridAlignment → ℕ → Option ℕ
expected s p k = let q = applied p (cell_point s k) in marker_on (board_in s) q.u q.v

-- A contributing cell: marker expected and weight above 0. `id` is that of the marker.
pub record Contribution : Type 0 where
  pub weight : Float
  pub samples : Samples
  pub id : ℕ

abbrev pub contributed_with : Float → Samples → Option ℕ → List Contribution
contributed_with w x None = []
contributed_with w x (Some m) = cond (lt nought w) (record { weight = w; samples = x; id = m } ∷ []) []

-- cell k if it contributes, the contributing cells of the first n, and all of them, in cell order
unfoldable pub contributed : Shot → GridAlignment → ℕ → List Contribution
contributed s p k = contributed_with (weight_of s k) (samples_of s k) (expected s p k)

abbrev pub contributions_to : Shot → GridAlignment → ℕ → List Contribution
contributions_to s p n = up_to (contributed s p) n

abbrev pub contributions : Shot → GridAlignment → List Contribution
contributions s p = contributions_to s p (cell_total s)

abbrev pub contributing_cells : Shot → GridAlignment → ℕ
contributing_cells s p = length (contributions s p)

-- the term of a contributing cell after r quarter turns: weight × evidence, as f32 multiplies and exactly; and in the capacity weight × −null
abbrev pub reported_term : Shot → ℕ → Contribution → Float
reported_term s r c = weighted c.weight (table_of s) c.samples (code_of s r c.id)

abbrev pub exact_term : Shot → ℕ → Contribution → ℤ
exact_term s r c = exact_weighted c.weight (table_of s) c.samples (code_of s r c.id)

abbrev pub capacity_term : Shot → Contribution → Float
capacity_term s c = mul binary32 c.weight (neg (null_score s.bits))

-- the sums from 0 over the contributing cells in order
abbrev pub reported_sum : Shot → ℕ → List Contribution → Float
reported_sum s r cs = foldl (λ (x : Float) (c : Contribution). add binary32 x (reported_term s r c)) nought cs

abbrev pub exact_sum : Shot → ℕ → List Contribution → ℤ
exact_sum s r cs = foldl (λ (z : ℤ) (c : Contribution). z +ℤ exact_term s r c) (pos 0) cs

abbrev pub capacity_sum : Shot → List Contribution → Float
capacity_sum s cs = foldl (λ (x : Float) (c : Contribution). add binary32 x (capacity_term s c)) nought cs

-- A placement's reported evidence: the weighted log-likelihood ratio as f32 sum, or `Absent` (upstream's −∞) where no cell contributes.
abbrev pub reported_over : Shot → ℕ → List Contribution → Evidence
reported_over s r [] = evidence.Absent
reported_over s r (c ∷ cs) = evidence.Number (reported_sum s r (c ∷ cs))

unfoldable pub reported : Shot → GridAlignment → Evidence
reported s p = reported_over s p.turn (contributions s p)

-- Its exact evidence: the same sum without rounding, as an integer multiple of 2⁻²⁹⁸, or none where no cell contributes.
abbrev pub exact_over : Shot → ℕ → List Contribution → Maybe ℤ
exact_over s r [] = none
exact_over s r (c ∷ cs) = some (exact_sum s r (c ∷ cs))

unfoldable pub exact : Shot → GridAlignment → Maybe ℤ
exact s p = exact_over s p.turn (contributions s p)

-- Its capacity: the largest attainable evidence of its contributing cells, 0 if there are none.
unfoldable pub capacity : Shot → GridAlignment → Float
capacity s p = capacity_sum s (contributions s p)
