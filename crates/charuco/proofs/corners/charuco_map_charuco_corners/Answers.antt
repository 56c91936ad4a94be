-- `charuco::corners::charuco_map_charuco_corners` meets its contract. Assumes nothing.
use mathlib.Core.Path.{ap, ◌∙◌}
use mir.Syntax.{w32}
use mir.ValLaws.{to_z-of_z}
use Rattle.corner_mapping.specs.Entry.{map_corners, map_corners_list}
use Rattle.charuco.specs.Entries.{alignment_of}
use Rattle.charuco.specs.Answers.{count_told}
use Rattle.charuco.proofs.Giving.{telling}
use Rattle.charuco.proofs.corners.charuco_map_charuco_corners.Goals as goal

pub returns : goal.returns
returns c =
    let x = c.args in
    let b = c.map_charuco_corners-answer.ensures in
    let es = c.spec-spec.ensures in
    let ea = c.alignment-alignment.ensures ∙ (λ i. alignment_of x.turn (to_z-of_z w32 x.tx c.ranges.tx i) (to_z-of_z w32 x.ty c.ranges.ty i)) in record {
      answer = telling
          (ap count_told
          (b.answer ∙ (λ i. map_corners (es i) x.codes.now x.scores.now x.grid.now (ea i) x.corners.now)))
          c.counted.ensures;
      list = b.list ∙ (λ i. map_corners_list (es i) x.codes.now x.scores.now x.grid.now (ea i) x.corners.now);
    }
