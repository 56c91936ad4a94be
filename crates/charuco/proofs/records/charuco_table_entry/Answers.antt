-- `charuco::records::charuco_table_entry` meets its contract. Assumes nothing.
use mathlib.Core.Path.{ap}
use Rattle.charuco.specs.Records.{entry_told}
use Rattle.charuco.proofs.Giving.{telling}
use Rattle.charuco.proofs.records.charuco_table_entry.Goals as goal

pub returns : goal.returns
returns c = telling (ap entry_told c.table_entry.ensures) c.tell_entry.ensures
