-- Document 01, Search: the best placement, the runner-up and the margin.
use Rattle.std.specs.Prelude.{List, map, length, Option, Some, None}
use Rattle.grid_alignment.specs.declared.GridAlignment.{GridAlignment}
use Rattle.shot_record.specs.Shots.{Shot}
use Rattle.ranking.specs.declared.Hypothesis.{Hypothesis}
use Rattle.ranking.specs.Greatest.{first_greatest, rest}
use Rattle.ranking.specs.Margin.{margin}
use Rattle.hypothesis.specs.declared.Selection.{Selection}
use Rattle.hypothesis.specs.Placements.{placements}
use Rattle.hypothesis.specs.Evidence.{contributing_cells, reported, capacity}

-- a placement with its evidence and its count of contributing cells, and all of them in order
abbrev pub hypothesis : Shot → GridAlignment → Hypothesis
hypothesis s p = record { alignment = p; evidence = reported s p; contributing_cells = contributing_cells s p }

abbrev pub hypotheses : Shot → List Hypothesis
hypotheses s = map (hypothesis s) (placements s)

-- Best is the first maximum of evidence, the runner-up the first maximum of the rest.
abbrev pub best : Shot → Option Hypothesis
best s = first_greatest (hypotheses s)

abbrev pub runner_up : Shot → Option Hypothesis
runner_up s = first_greatest (rest (hypotheses s))

-- The result of the search: none if there is no placement.
abbrev pub selection : Shot → Hypothesis → Selection
selection s b =
    record { best = b; runner_up = runner_up s; total = length (placements s); margin = margin b.evidence (capacity s b.alignment) (runner_up s) }

abbrev pub selected : Shot → Option Hypothesis → Option Selection
selected s None = None
selected s (Some b) = Some (selection s b)

unfoldable pub enumerate : Shot → Option Selection
enumerate s = selected s (best s)
