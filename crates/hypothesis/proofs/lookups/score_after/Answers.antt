-- `hypothesis::lookups::score_after` meets its contract: the id of a marker is below the number of markers. Assumes nothing.
use mathlib.Core.Path.{refl, ap, ◌∙◌}
use mathlib.Core.Bool.{Bool}
use Prim.Native.Nat.{◌+◌, ◌*◌, ◌<◌}
use native.Mathlib.Omega.{arith}
use lib.ListN.{length}
use Rattle.board.specs.Numbering.{number_if}
use Rattle.board.specs.Layout.{parity_of, marker_total}
use Rattle.board.proofs.Laws.{id_below}
use Rattle.hypothesis.proofs.lookups.score_after.Goals as goal
use Rattle.hypothesis.proofs.lookups.score_after.Goals.{After-marker_on-id, Start}

module _ (c : After-marker_on-id) where
  known : c.marker_on-id.result < marker_total c.args.cell.board
  known =
      let b = c.args.cell.board in
      id_below (parity_of b) b.rows b.cols _ _ c.marker_on-id.result
      (c.marker_on-id.ensures.id ∙ ap (λ (t : Bool). number_if t c.marker_on-id.result) c.requires.4)

  inside : c.args.first + 4 * c.marker_on-id.result < length c.args.scores.now
  inside = c.requires.5 c.marker_on-id.result known

pub overflow_add-result : goal.overflow_add-result
overflow_add-result c = record { fits = omega (arith, inside c) }

pub offset_bounds-scores-first : goal.offset_bounds-scores-first
offset_bounds-scores-first c = record { fits = omega (arith, inside c) }

pub returns : goal.returns
returns c = let m = c.marker_on-id in (m.result, m.ensures.id, refl)

pub bounds-scores-first : goal.bounds-scores-first
bounds-scores-first c = inside (goal.at.bounds-scores-first c).After-marker_on-id
