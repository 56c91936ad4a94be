-- Document 02, 2.8: weights, question 9 and counts of small shots under a least weight, and uses of its laws.
use Rattle.std.specs.Prelude.{◌≡◌, not, List, ℕ, T, pos, Float}
use Rattle.std.proofs.Math.Option.{Option, none, some}
use Rattle.std.specs.Float.{binary32}
use Rattle.std.specs.Float.Ieee.{of_bits, lt, eq}
use Rattle.floats.specs.Units.{Between}
use Rattle.refusal.specs.declared.Refusal.{Refusal}
use Rattle.refusal.specs.declared.Refusal.TheVariants as refusal
use Rattle.score_matrix.specs.declared.BoardMatchConfig.{BoardMatchConfig}
use Rattle.score_matrix.specs.Weights.{uncut_by, sampled_weight, with_least}
use Rattle.shot_record.specs.Shots.{Sample, Shot, parse}
use Rattle.shot_record.specs.Answers.{of_pattern}
use Rattle.shot_record.specs.Writing.{bytes_of}
use Rattle.hypothesis.specs.Evidence.{contributing_cells}
use Rattle.board_match.specs.Questions.{asked_before15}
use Rattle.board_match.specs.Match.{match_answer, match_list}
use Rattle.board_match.specs.Scores.{scored_answer, scored_list, scores_left}
use Rattle.worked_examples.specs.Table.{zero_float, one_float, half, quarter, three_quarters, over_threshold, align, showing, too_wide}
use Rattle.worked_examples.specs.Requests.{black_border}
use Rattle.worked_examples.specs.Uses.{pair, pair_record}

-- the weight of a cell with fraction 0.25 under the border threshold 0.5 and a least weight, as a bit pattern: 0.5 if it is not cut
abbrev pub quarter_seen : BoardMatchConfig → ℕ → Float
quarter_seen c least = sampled_weight (with_least (of_bits binary32 least) (over_threshold c half)) quarter

-- a shot with another least weight
abbrev pub with_least_weight : ℕ → Shot → Shot
with_least_weight least s =
    record {
      minimum_margin = s.minimum_margin;
      border_threshold = s.border_threshold;
      px_per_square = s.px_per_square;
      table = s.table;
      least_weight = least;
      rows = s.rows;
      cols = s.cols;
      bits = s.bits;
      border = s.border;
      legacy_pattern = s.legacy_pattern;
      cell_size = s.cell_size;
      marker_size_rel = s.marker_size_rel;
      codes = s.codes;
      cells = s.cells;
    }

-- sampled with fraction 0.25
abbrev pub pale_border : ℕ → List ℕ → Option Sample
pale_border threshold grid = some (record { fraction = 0x3E800000; threshold = threshold; grid = grid })

-- the number of contributing cells of two on marker squares, the first with weight 0.5 and the second with weight 1
abbrev pub counted_under : ℕ → ℕ → List ℕ → List ℕ → ℕ
counted_under least t g h = contributing_cells (with_least_weight least (showing too_wide 2 (pale_border t g) (black_border t h))) (align 0 (pos 1) (pos 0))

-- the error before 15 of a shot with two unsampled cells and a least weight
abbrev pub refused_under : ℕ → Option Refusal
refused_under least = asked_before15 (with_least_weight least (showing too_wide 1 none none)) 36

pub record LeastWeights : Type 0 where
  -- 0.5 is kept by the least weight 0.5 and by the float before it, and cut by the float after it
  pub equal : (c : BoardMatchConfig) → quarter_seen c 0x3F000000 ≡ half
  pub above : (c : BoardMatchConfig) → quarter_seen c 0x3EFFFFFF ≡ half
  pub below : (c : BoardMatchConfig) → quarter_seen c 0x3F000001 ≡ zero_float
  -- the weight is compared, not the fraction, which is below 0.4
  pub weight_compared : (c : BoardMatchConfig) → quarter_seen c 0x3ECCCCCD ≡ half
  -- from the border threshold on the weight is 1, which the least weight 1 keeps
  pub whole_weight : (c : BoardMatchConfig) → sampled_weight (with_least one_float (over_threshold c half)) half ≡ one_float
  -- counts follow
  pub both_count : (t : ℕ) (g h : List ℕ) → counted_under 0x3F000000 t g h ≡ 2
  pub one_counts : (t : ℕ) (g h : List ℕ) → counted_under 0x3F000001 t g h ≡ 1
  -- question 9 passes 0, −0.0 and 1; it refuses the float after 1, 1.5, the negative float nearest to 0, infinities and NaN
  pub passed : (refused_under 0 ≡ none) × (refused_under 0x80000000 ≡ none) × (refused_under 0x3F800000 ≡ none)
  pub refused :
      (refused_under 0x3F800001 ≡ some refusal.InvalidSettings) × (refused_under 0x3FC00000 ≡ some refusal.InvalidSettings)
      × (refused_under 0x80000001 ≡ some refusal.InvalidSettings) × (refused_under 0x7F800000 ≡ some refusal.InvalidSettings)
      × (refused_under 0xFF800000 ≡ some refusal.InvalidSettings) × (refused_under 0x7FC00000 ≡ some refusal.InvalidSettings)

-- uses of the laws, for all settings and fractions
pub record OfLeastWeights : Type 0 where
  -- 0 and −0.0 give the same weight
  pub zeros :
      (c : BoardMatchConfig) (fraction : Float)
      → sampled_weight (with_least zero_float c) fraction ≡ sampled_weight (with_least (of_bits binary32 0x80000000) c) fraction
  -- a cell that contributes under 0.75 has the same weight under 0.5
  pub smaller :
      (c : BoardMatchConfig) (fraction : Float) → T (lt zero_float (sampled_weight (with_least three_quarters c) fraction))
      → sampled_weight (with_least half c) fraction ≡ sampled_weight (with_least three_quarters c) fraction
  -- under 0.5 a cell has weight 0 or its uncut weight
  pub cut_or_not :
      (c : BoardMatchConfig) (fraction : Float)
      → (T (lt (uncut_by c fraction) half) → sampled_weight (with_least half c) fraction ≡ zero_float)
      × (T (not (lt (uncut_by c fraction) half)) → sampled_weight (with_least half c) fraction ≡ uncut_by c fraction)
      × (T (eq (uncut_by c fraction) half) → sampled_weight (with_least half c) fraction ≡ uncut_by c fraction)
  -- a shot that passes the questions before 15 has a least weight from 0 to 1
  pub sound : (s : Shot) (words : ℕ) → asked_before15 s words ≡ none → Between zero_float one_float (of_pattern s.least_weight)
  -- the record with the least weight 0 encodes the same shot, and has the same results
  pub zero_least_weight : parse (bytes_of 32 (pair 200)) ≡ some (pair 200)
  pub zero_least_weight_same :
      (scores : List Float) (lent : List ℕ)
      → (match_answer (bytes_of 32 (pair 200)) lent ≡ match_answer (pair_record 200) lent)
      × (match_list (bytes_of 32 (pair 200)) lent ≡ match_list (pair_record 200) lent)
      × (scored_answer (bytes_of 32 (pair 200)) scores lent ≡ scored_answer (pair_record 200) scores lent)
      × (scored_list (bytes_of 32 (pair 200)) scores lent ≡ scored_list (pair_record 200) scores lent)
      × (scores_left (bytes_of 32 (pair 200)) scores lent ≡ scores_left (pair_record 200) scores lent)
