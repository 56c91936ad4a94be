-- Document 01, Search: the accuracy rule, a bound of the rounding error, for every placement of a shot. Exact values are integer multiples of 2⁻²⁹⁸.
use Rattle.std.specs.Prelude.{ℕ, ◌+◌, ◌*◌, ◌^◌, ◌≤◌, ◌<◌, ◌≡◌, false, get_or, ℤ, pos, ◌-ℤ◌, ◌*ℤ◌, ◌<ℤ◌, T, Float, Some}
use Rattle.std.proofs.Math.Option.{none, some}
use Rattle.std.proofs.Math.ListN.{get_elem?}
use Rattle.integers.specs.Distance.{Within}
use Rattle.floats.specs.Units.{units_of, Finite, nought, unity, Between}
use Rattle.grid_alignment.specs.declared.GridAlignment.{GridAlignment}
use Rattle.score_matrix.specs.Table.{is_table}
use Rattle.shot_record.specs.Shots.{Sample, Shot}
use Rattle.shot_record.specs.Answers.{of_pattern}
use Rattle.ranking.specs.declared.Evidence.TheVariants as evidence
use Rattle.ranking.specs.declared.Hypothesis.{Hypothesis}
use Rattle.ranking.specs.Greatest.{lies_below}
use Rattle.hypothesis.specs.Placements.{cell_total, cell, placements}
use Rattle.hypothesis.specs.Evidence.{table_of, contributing_cells, reported, exact}
use Rattle.hypothesis.specs.Search.{best}

-- N × (N + 67) / 65,536, in units of 2⁻²⁹⁸
abbrev pub bound : Shot → ℕ
bound s = cell_total s * (cell_total s + 67) * 2 ^ 282

-- a reported number in these units
abbrev pub wide : Float → ℤ
wide x = units_of x *ℤ pos (2 ^ 149)

-- a placement of the shot
abbrev pub Placement : Shot → GridAlignment → Type 0
Placement s p = (k : ℕ) × (get_elem? (placements s) k ≡ some p)

-- the best's lead over another placement with a number, computed without rounding, is more than twice the bound
abbrev pub Leads : Shot → Float → GridAlignment → Type 0
Leads s x q = (y : Float) → reported s q ≡ evidence.Number y → pos (2 * bound s) <ℤ (wide x -ℤ wide y)

-- For every placement: the reported evidence is none exactly when the exact one is, is finite, and is within the bound of it. If the best leads every
-- other placement that has a number, every other placement has less exact evidence than the best, or none.
pub record AccurateEvidence (s : Shot) : Type 0 where
  pub none_if : (p : GridAlignment) → Placement s p → exact s p ≡ none → reported s p ≡ evidence.Absent
  pub none_only_if : (p : GridAlignment) → Placement s p → reported s p ≡ evidence.Absent → exact s p ≡ none
  pub is_finite : (p : GridAlignment) → Placement s p → (x : Float) → reported s p ≡ evidence.Number x → Finite x
  pub near : (p : GridAlignment) → Placement s p → (x : Float) (z : ℤ) → reported s p ≡ evidence.Number x → exact s p ≡ some z → Within (wide x) z (bound s)
  pub true_lead :
      (b : Hypothesis) (x : Float) (e : ℤ) → best s ≡ Some b → reported s b.alignment ≡ evidence.Number x → exact s b.alignment ≡ some e
      → ((q : GridAlignment) → Placement s q → (q ≡ b.alignment → ⊥) → Leads s x q)
      → (q : GridAlignment) → Placement s q → (q ≡ b.alignment → ⊥) → (z : ℤ) → exact s q ≡ some z → z <ℤ e

-- g is a runner-up of b: another placement, with its reported evidence and count, that does not rank above b
pub record RunsUp (s : Shot) (b g : Hypothesis) : Type 0 where
  pub placed : Placement s g.alignment
  pub other : g.alignment ≡ b.alignment → ⊥
  pub evidence_is : g.evidence ≡ reported s g.alignment
  pub count_is : g.contributing_cells ≡ contributing_cells s g.alignment
  pub not_above : lies_below b.evidence g.evidence ≡ false

-- ---- shots that pass the checks
pub record Sound (x : Sample) : Type 0 where
  pub fraction : Between nought unity (of_pattern x.fraction)
  pub threshold : x.threshold < 256
  pub greys : (i : ℕ) → get_or x.grid i 0 < 256

pub record Checked (s : Shot) : Type 0 where
  pub small : s.bits ≤ 8
  pub table : T (is_table (table_of s))
  pub threshold : Finite (of_pattern s.border_threshold)
  pub few : cell_total s ≤ 256
  pub cells : (k : ℕ) (x : Sample) → (cell s k).sample ≡ some x → Sound x

abbrev pub AccuracyRule : Type 0
AccuracyRule = (s : Shot) → Checked s → AccurateEvidence s
