-- `charuco::records::charuco_read_header` meets its contract. Assumes nothing.
use mathlib.Core.Path.{ap}
use Rattle.charuco.specs.Records.{header_told}
use Rattle.charuco.proofs.Giving.{telling}
use Rattle.charuco.proofs.records.charuco_read_header.Goals as goal

pub returns : goal.returns
returns c = telling (ap header_told c.read_header.ensures) c.tell_header.ensures
