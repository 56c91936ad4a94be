-- `charuco::records::charuco_cell` meets its contract. Assumes nothing.
use mathlib.Core.Path.{ap}
use Rattle.charuco.specs.Records.{cell_told}
use Rattle.charuco.proofs.Giving.{telling}
use Rattle.charuco.proofs.records.charuco_cell.Goals as goal

pub returns : goal.returns
returns c = telling (ap cell_told c.cell.ensures) c.tell_cell.ensures
