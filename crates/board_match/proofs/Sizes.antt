-- The numbers of every result of Match are small: there is at most one marker for each cell. Assumes nothing.
use mathlib.Core.Path.{◌≡◌, refl}
use mathlib.Core.List.{map}
use Prim.Native.Nat.{◌≤◌}
use native.Mathlib.Omega.{arith}
use lib.ListN.{length, length-map}
use Rattle.grid_alignment.proofs.Entries.{small-corners}
use Rattle.shot_record.specs.Shots.{Shot, shot}
use Rattle.ranking.specs.declared.Hypothesis.{Hypothesis}
use Rattle.ranking.specs.Ranking.{ranking_of}
use Rattle.hypothesis.specs.Placements.{cell_total, with_turns_below, placements}
use Rattle.hypothesis.specs.Evidence.{contributing_cells}
use Rattle.hypothesis.specs.Search.{hypothesis, best, runner_up}
use Rattle.hypothesis.specs.Accuracy.{Placement}
use Rattle.hypothesis.specs.Inputs.{PassedShot}
use Rattle.hypothesis.proofs.Contributing.{count_rule}
use Rattle.hypothesis.proofs.Best.{small_placement, best_placed, runner_up-placed}
use Rattle.hypothesis.proofs.Turned.{total-small}
use Rattle.emit.proofs.Laws.{one_per_cell}
use Rattle.board_match.specs.Match.{match_of}
use Rattle.board_match.specs.Sizes.{SmallHypothesis, SmallRunnerUp, SmallMatch, SmallAnswer, SizesRule}
use Rattle.board_match.proofs.Accurately.{of_answer}
use Rattle.std.specs.Prelude.{Option, Some, None}

module _ (s : Shot) (p : PassedShot s) where
  -- a placement of the shot, with its count
  small-hypothesis : (h : Hypothesis) → Placement s h.alignment → h.contributing_cells ≡ contributing_cells s h.alignment
      → SmallHypothesis (cell_total s) h
  small-hypothesis h placed e =
      record { alignment = small_placement s p h.alignment placed; contributing = rw e (count_rule s h.alignment).at_most }

  few-placements : length (placements s) ≤ 4096
  unfolding placements
  few-placements =
      let t = total-small s p.cols p.rows 4 (ranking_of (map (hypothesis s) (with_turns_below s 4))) refl in
      omega (arith, t, length-map (with_turns_below s 4) (hypothesis s))

  module _ (b : Hypothesis) (is : best s ≡ Some b) where
    small_next : (c : Option Hypothesis) → runner_up s ≡ c → SmallRunnerUp (cell_total s) c
    small_next None e = tt
    small_next (Some g) e = let r = runner_up-placed s p.checked b g is e in small-hypothesis g r.placed r.count_is

    small_match : SmallMatch (cell_total s) (match_of s b)
    small_match =
        let placed = best_placed s p b is in
        record {
          best = small-hypothesis b placed.placement placed.count_is;
          runner_up_is = small_next (runner_up s) refl;
          corners = small-corners 4127 b.alignment placed.small;
          placements = few-placements;
          markers = one_per_cell s b.alignment;
          few_cells = p.checked.few;
        }

pub small-answer : SizesRule
small-answer bytes lent small =
    of_answer bytes lent small (SmallAnswer bytes) (λ r. tt) (λ b p. small_match (shot bytes) p.passed b p.is)
