-- The weight of a cell: document 01, "Scores", and the least weight of document 02, 2.8.
use Rattle.std.specs.Prelude.{◌≡◌, not, cond, T, Float, Option, Some, None}
use Rattle.std.specs.Float.{binary32}
use Rattle.std.specs.Float.Ieee.{div, le, lt, eq}
use Rattle.floats.specs.Units.{Finite, nought, unity, Between, clamp01}
use Rattle.score_matrix.specs.declared.BoardMatchConfig.{BoardMatchConfig}

-- of a sampled cell: "Weight is 1 if `cell_weight_border_threshold` ≤ 0, else fraction / threshold clamped to 0..1"
abbrev pub uncut_weight : Float → Float → Float
uncut_weight threshold fraction = cond (le threshold nought) unity (clamp01 (div binary32 fraction threshold))

-- Document 02, 2.8: "A cell whose weight is below it has weight 0; an equal one keeps its weight."
abbrev pub cut : Float → Float → Float
cut least w = cond (lt w least) nought w

-- 0 for an unsampled cell
abbrev pub weight : BoardMatchConfig → Option Float → Float
weight config (Some fraction) = cut config.least_weight (uncut_weight config.cell_weight_border_threshold fraction)
weight config None = nought

-- a fraction from 0 to 1, or none
abbrev pub FractionInRange : Option Float → Type 0
FractionInRange (Some fraction) = Between nought unity fraction
FractionInRange None = Unit {0}

-- a weight is from 0 to 1, for every finite border threshold and every fraction from 0 to 1
abbrev pub WeightRule : Type 0
WeightRule =
    (config : BoardMatchConfig) (b : Option Float) → Finite config.cell_weight_border_threshold → FractionInRange b
    → Between nought unity (weight config b)

-- settings c with another least weight
abbrev pub with_least : Float → BoardMatchConfig → BoardMatchConfig
with_least least c =
    record {
      px_per_square = c.px_per_square;
      alignment_min_margin = c.alignment_min_margin;
      cell_weight_border_threshold = c.cell_weight_border_threshold;
      least_weight = least;
    }

-- the weight of a sampled cell, and without the cut
abbrev pub sampled_weight : BoardMatchConfig → Float → Float
sampled_weight c fraction = weight c (Some fraction)

abbrev pub uncut_by : BoardMatchConfig → Float → Float
uncut_by c fraction = uncut_weight c.cell_weight_border_threshold fraction

-- the cut, for all settings and fractions
pub record LeastWeightRule (c : BoardMatchConfig) (fraction : Float) : Type 0 where
  pub below : T (lt (uncut_by c fraction) c.least_weight) → sampled_weight c fraction ≡ nought
  pub not-below : T (not (lt (uncut_by c fraction) c.least_weight)) → sampled_weight c fraction ≡ uncut_by c fraction
  pub equal : T (eq (uncut_by c fraction) c.least_weight) → sampled_weight c fraction ≡ uncut_by c fraction
  -- a cell that contributes under a least weight contributes with the same weight under every smaller one
  pub smaller : (least : Float) → T (le least c.least_weight) → T (lt nought (sampled_weight c fraction))
      → sampled_weight (with_least least c) fraction ≡ sampled_weight c fraction
  -- 0 and −0.0 cut nothing
  pub zero : T (le c.least_weight nought) → sampled_weight c fraction ≡ uncut_by c fraction
