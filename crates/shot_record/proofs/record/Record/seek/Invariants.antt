-- `shot_record::cells::Record::seek` meets its contract. The loop's invariant: the iteration is at the counted cell. Assumes nothing.
use mathlib.Core.Path.{◌≡◌}
use Rattle.shot_record.specs.Fields.{cursor_at}
use Rattle.shot_record.proofs.record.Record.seek.Given as goal

abbrev pub invariant-loop : goal.invariant-loop
invariant-loop l = l.c ≡ cursor_at l.self.bytes.now l.counter
