-- `charuco::records::charuco_code` meets its contract. Assumes nothing.
use mathlib.Core.Path.{ap}
use Rattle.charuco.specs.Records.{code_told}
use Rattle.charuco.proofs.Giving.{telling}
use Rattle.charuco.proofs.records.charuco_code.Goals as goal

pub returns : goal.returns
returns c = telling (ap code_told c.code.ensures) c.tell_code.ensures
