-- Upper bounds of the numbers of a match.
use Rattle.std.specs.Prelude.{ℕ, ◌≤◌, ◌<◌, List, get_or, Option, Result, Some, None, Ok, Err}
use Rattle.grid_alignment.specs.Alignment.{SmallAlignment}
use Rattle.shot_record.specs.Shots.{shot}
use Rattle.ranking.specs.declared.Hypothesis.{Hypothesis}
use Rattle.hypothesis.specs.Placements.{cell_total}
use Rattle.board_match.specs.declared.Match.{Match}
use Rattle.board_match.specs.Match.{match_answer}
use Rattle.refusal.specs.declared.Refusal.{Refusal}

-- a small translation, and at most so many contributing cells
pub record SmallHypothesis (cells : ℕ) (h : Hypothesis) : Type 0 where
  pub alignment : SmallAlignment 4127 h.alignment
  pub contributing : h.contributing_cells ≤ cells

abbrev pub SmallRunnerUp : ℕ → Option Hypothesis → Type 0
SmallRunnerUp cells (Some h) = SmallHypothesis cells h
SmallRunnerUp cells None = Unit {0}

-- at most one marker for each of at most 256 cells
pub record SmallMatch (cells : ℕ) (m : Match) : Type 0 where
  pub best : SmallHypothesis cells m.best
  pub runner_up_is : SmallRunnerUp cells m.runner_up
  pub corners : SmallAlignment 4128 m.corners
  pub placements : m.placements ≤ 4096
  pub markers : m.markers ≤ cells
  pub few_cells : cells ≤ 256

abbrev pub SmallAnswer : List ℕ → Result Match Refusal → Type 0
SmallAnswer bytes (Ok m) = SmallMatch (cell_total (shot bytes)) m
SmallAnswer bytes (Err refused) = Unit {0}

-- for every record
abbrev pub SizesRule : Type 0
SizesRule = (bytes lent : List ℕ) → ((i : ℕ) → get_or bytes i 0 < 256) → SmallAnswer bytes (match_answer bytes lent)
