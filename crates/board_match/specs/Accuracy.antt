-- Demand 3 for a result of Match: for every placement of a placed shot, and for those in the result; likewise the counts of contributing cells
-- (document 02, 2.5). And which margins pass question 16.
use Rattle.std.specs.Prelude.{◌≡◌, List, true, false, not, ℕ, ◌<◌, T, length, get_or, Float, Result, Some, Ok, Err}
use Rattle.std.proofs.Math.Option.{none, some}
use Rattle.std.specs.Float.Ieee.{lt, is_nan}
use Rattle.refusal.specs.declared.Refusal.TheVariants as refusal
use Rattle.grid_alignment.specs.declared.GridAlignment.{GridAlignment}
use Rattle.shot_record.specs.Shots.{Shot, shot, whole_record}
use Rattle.ranking.specs.declared.Evidence.TheVariants as evidence
use Rattle.ranking.specs.declared.Hypothesis.{Hypothesis}
use Rattle.hypothesis.specs.Placements.{placements}
use Rattle.hypothesis.specs.Evidence.{contributing_cells, reported}
use Rattle.hypothesis.specs.Search.{best}
use Rattle.hypothesis.specs.Rules.{count_of, CountsCells}
use Rattle.hypothesis.specs.Accuracy.{Placement, AccurateEvidence, RunsUp}
use Rattle.board_match.specs.declared.Match.{Match}
use Rattle.board_match.specs.Questions.{asked_before15}
use Rattle.board_match.specs.Match.{margin_of, minimum, refused_by}
use Rattle.refusal.specs.declared.Refusal.{Refusal}

pub record PlacedAccurately (s : Shot) (m : Match) : Type 0 where
  -- every placement: reported none exactly when exact none, finite and within the bound, and a true lead
  pub accurate : AccurateEvidence s
  -- every alignment: the count of its contributing cells, and that its evidence is none exactly when that is 0
  pub counts : (p : GridAlignment) → CountsCells s p
  -- the best is that of the search: a placement, with its count and its reported evidence, which is a number
  pub best_is : best s ≡ Some m.best
  pub best_placed : Placement s m.best.alignment
  pub best_reported : m.best.evidence ≡ reported s m.best.alignment
  pub best_count : m.best.contributing_cells ≡ contributing_cells s m.best.alignment
  pub number : Float
  pub best_number : m.best.evidence ≡ evidence.Number number
  -- the runner-up, where there is one
  pub runner_up_is : (g : Hypothesis) → m.runner_up ≡ Some g → RunsUp s m.best g
  -- the number of placements, by document 01's formula
  pub count : m.placements ≡ count_of s

abbrev pub Accuracy : List ℕ → Result Match Refusal → Type 0
Accuracy bytes (Err refused) = Unit {0}
Accuracy bytes (Ok m) = PlacedAccurately (shot bytes) m

-- ---- question 16
-- of a shot that passes the questions before it and has a placement
pub record Gate (s : Shot) (words : ℕ) : Type 0 where
  -- the margin is a number, so that it is either below the minimum or not
  pub number : T (not (is_nan (margin_of s)))
  -- below the minimum the shot is refused with its margin, else not for its margin
  pub refuses : lt (margin_of s) (minimum s) ≡ true → refused_by s words ≡ some (refusal.Margin (margin_of s))
  pub lets_pass : lt (margin_of s) (minimum s) ≡ false → (m : Float) → refused_by s words ≡ some (refusal.Margin m) → ⊥

-- for every record
abbrev pub GateRule : Type 0
GateRule = (bytes : List ℕ) (words : ℕ) → ((i : ℕ) → get_or bytes i 0 < 256) → whole_record bytes ≡ true → asked_before15 (shot bytes) words ≡ none
    → 0 < length (placements (shot bytes)) → Gate (shot bytes) words
