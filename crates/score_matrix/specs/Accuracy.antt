-- Document 01, Search: the accuracy rule, for one cell. Exact values are integer multiples of 2⁻¹⁴⁹ for a score and for evidence, of 2⁻²⁹⁸ with
-- a weight. Table entries, weights and null score count as their f32 numbers. 2⁻¹⁶ is 2 ^ 133 of the former and 2 ^ 282 of the latter.
use Rattle.std.specs.Prelude.{ℕ, ◌*◌, ◌^◌, ◌≤◌, ◌<◌, true, List, T, get_or, ℤ, pos, nat_abs, ◌-ℤ◌, ◌*ℤ◌, Float}
use Rattle.std.specs.Float.{nan, fin, binary32}
use Rattle.std.specs.Float.Ieee.{neg, mul, le, fits}
use Rattle.integers.specs.Distance.{Within}
use Rattle.floats.specs.Units.{units_of, Finite, nought, unity, exact_to, Between}
use Rattle.score_matrix.specs.Table.{is_table}
use Rattle.score_matrix.specs.Scores.{Samples, bit_count, term, score, null_score, evidence}

-- `exact`: computed without rounding. The sum of the bits² table entries that the score adds
abbrev pub exact_score : List Float → Samples → ℕ → ℤ
exact_score table s code = exact_to (term table s code) (bit_count s)

-- less the null score
abbrev pub exact_evidence : List Float → Samples → ℕ → ℤ
exact_evidence table s code = exact_score table s code -ℤ units_of (null_score s.bits)

-- times the weight: what a contributing cell adds to a placement, in f32 and exact
abbrev pub weighted : Float → List Float → Samples → ℕ → Float
weighted w table s code = mul binary32 w (evidence table s code)

abbrev pub exact_weighted : Float → List Float → Samples → ℕ → ℤ
exact_weighted w table s code = units_of w *ℤ exact_evidence table s code

-- what is known of a table that passes question 10, of a cell, and of a weight
pub record PassedTable (table : List Float) : Type 0 where
  pub is_table_is : T (is_table table)
  pub floats : (i : ℕ) → T (fits binary32 (get_or table i nan))

pub record ByteSamples (s : Samples) : Type 0 where
  pub small : s.bits ≤ 8
  pub threshold : s.threshold < 256
  pub greys : (i : ℕ) → get_or s.grid i 0 < 256

pub record WeightInRange (w : Float) : Type 0 where
  pub float : T (fits binary32 w)
  pub range : Between nought unity w

-- −512
abbrev pub lowest_score : Float
lowest_score = fin true 1 (pos 9)

pub record AccurateCell (table : List Float) (s : Samples) (code : ℕ) (w : Float) : Type 0 where
  -- the score is finite, from −512 to 0, and within 64 × 2⁻¹⁶ of the exact sum
  pub score_finite : Finite (score table s code)
  pub score_range : Between lowest_score nought (score table s code)
  pub score_near : Within (units_of (score table s code)) (exact_score table s code) (64 * 2 ^ 133)
  -- evidence is finite, at most −null, and within 65 × 2⁻¹⁶
  pub evidence_finite : Finite (evidence table s code)
  pub evidence_most : T (le (evidence table s code) (neg (null_score s.bits)))
  pub evidence_near : Within (units_of (evidence table s code)) (exact_evidence table s code) (65 * 2 ^ 133)
  -- weight × evidence is finite, of size at most 512, and within 66 × 2⁻¹⁶
  pub weighted_finite : Finite (weighted w table s code)
  pub weighted_size : nat_abs (units_of (weighted w table s code)) ≤ 2 ^ 158
  pub weighted_near : Within (units_of (weighted w table s code) *ℤ pos (2 ^ 149)) (exact_weighted w table s code) (66 * 2 ^ 282)

-- the rule, for every side, table and weight
abbrev pub CellRule : Type 0
CellRule = (table : List Float) (s : Samples) (code : ℕ) (w : Float) → PassedTable table → ByteSamples s → WeightInRange w → AccurateCell table s code w
