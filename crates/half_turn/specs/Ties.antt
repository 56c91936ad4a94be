-- Document 02, 2.7: best and runner-up of a legacy shot and of the shot restated. "Ties may choose another best": they pair where no other placement
-- ties with one of the two.
use Rattle.std.specs.Prelude.{◌≡◌, false, ◌<◌, Option, Some, None}
use Rattle.grid_alignment.specs.declared.GridAlignment.{GridAlignment}
use Rattle.shot_record.specs.Shots.{Shot}
use Rattle.ranking.specs.declared.Hypothesis.{Hypothesis}
use Rattle.ranking.specs.Greatest.{lies_below}
use Rattle.hypothesis.specs.Placements.{cell_total}
use Rattle.hypothesis.specs.Evidence.{reported}
use Rattle.hypothesis.specs.Search.{best, runner_up}
use Rattle.hypothesis.specs.Accuracy.{Placement, Checked}
use Rattle.board_match.specs.Match.{margin_of}
use Rattle.legacy_record.specs.Restated.{restated}
use Rattle.half_turn.specs.Pairs.{TurnedByHalf, paired}

-- with the same evidence and the same count of contributing cells
abbrev pub paired_hypothesis : Shot → Hypothesis → Hypothesis
paired_hypothesis s h =
    record { alignment = paired s h.alignment; evidence = h.evidence; contributing_cells = h.contributing_cells }

abbrev pub paired_choice : Shot → Option Hypothesis → Option Hypothesis
paired_choice s None = None
paired_choice s (Some h) = Some (paired_hypothesis s h)

-- no other placement has the evidence of h: where neither is below the other, it is h's
abbrev pub Untied : Shot → Hypothesis → Type 0
Untied s h = (q : GridAlignment) → Placement s q → lies_below (reported s q) h.evidence ≡ false → lies_below h.evidence (reported s q) ≡ false
    → q ≡ h.alignment

-- no other placement has the best's evidence
abbrev pub BestUntied : Shot → Type 0
BestUntied s = (b : Hypothesis) → best s ≡ Some b → Untied s b

-- and no third one the runner-up's; placements without evidence tie with each other
pub record NoTies (s : Shot) : Type 0 where
  pub of_best : BestUntied s
  pub of_runner_up : (g : Hypothesis) → runner_up s ≡ Some g → Untied s g

-- `None` pairs with `None`: there is no placement, or no second one
abbrev pub BestRule : Type 0
BestRule = (s : Shot) → TurnedByHalf s → Checked s → 0 < cell_total s → BestUntied s → best (restated s) ≡ paired_choice s (best s)

abbrev pub RunnerUpRule : Type 0
RunnerUpRule = (s : Shot) → TurnedByHalf s → Checked s → 0 < cell_total s → NoTies s → runner_up (restated s) ≡ paired_choice s (runner_up s)

-- the margin is the same, with ties too
abbrev pub MarginRule : Type 0
MarginRule = (s : Shot) → TurnedByHalf s → Checked s → 0 < cell_total s → margin_of (restated s) ≡ margin_of s
