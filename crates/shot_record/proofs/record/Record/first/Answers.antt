-- `shot_record::cells::Record::first` meets its contract. Assumes nothing.
use mathlib.Core.Path.{ap}
use Prim.Native.Nat.{ℕ}
use Rattle.shot_record.specs.declared.cells.Cursor.{Cursor}
use Rattle.shot_record.specs.Fields.{cell_at}
use Rattle.shot_record.proofs.Reading.{found}
use Rattle.shot_record.proofs.record.Record.first.Goals as goal

abbrev from_start : ℕ → Cursor
from_start at = record { cell = 0; start = at }

pub returns : goal.returns
unfolding cell_at
returns c = ap from_start (found _ _ c.args.self.now.located).cells_at
