-- `charuco::links::charuco_validate_marker_corner_links` meets its contract. Assumes nothing.
use mathlib.Core.Path.{ap, ◌∙◌}
use Rattle.link_check.specs.Entry.{check_links, check_links_list}
use Rattle.charuco.specs.Answers.{count_told}
use Rattle.charuco.proofs.Giving.{telling}
use Rattle.charuco.proofs.links.charuco_validate_marker_corner_links.Goals as goal

pub returns : goal.returns
returns c =
    let x = c.args in
    let b = c.validate_marker_corner_links-answer.ensures in
    let es = c.spec-spec.ensures in
    let em = c.from.ensures in record {
      answer = telling (ap count_told (b.answer ∙ (λ i. check_links (es i) x.codes.now (em i) x.links.now x.violations.now))) c.counted.ensures;
      list = b.list ∙ (λ i. check_links_list (es i) x.codes.now (em i) x.links.now x.violations.now);
    }
