-- `charuco::converters::charuco_restate` meets its contract. Assumes nothing.
use mathlib.Core.Path.{ap}
use Rattle.charuco.specs.Answers.{count_told}
use Rattle.charuco.proofs.Giving.{telling}
use Rattle.charuco.proofs.converters.charuco_restate.Goals as goal

pub returns : goal.returns
returns c =
    let b = c.restate-answer.ensures in record {
      answer = telling (ap count_told b.answer) c.counted.ensures;
      list = b.list;
    }
