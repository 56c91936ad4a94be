-- `shot_record::cells::Record::seek` meets its contract. Assumes nothing.
use Rattle.std.proofs.Common.{ap, ◌∙◌, ◌+◌, arith}
use Rattle.shot_record.specs.declared.cells.Cursor.{Cursor}
use Rattle.shot_record.specs.Fields.{cursor_at}
use Rattle.shot_record.proofs.Walks.{at-cell}
use Rattle.shot_record.proofs.record.Record.seek.Goals as goal

pub next-c-requires : goal.next-c-requires
next-c-requires c = at-cell c.args.self.now c.loop.c c.loop.counter c.loop.invariant (omega arith)

pub loop-preserved : goal.loop-preserved
loop-preserved c = c.next-c.ensures ∙ ap (λ (d : Cursor). cursor_at c.args.self.now.bytes.now (d.cell + 1)) c.loop.invariant

pub returns : goal.returns
returns c = c.loop.invariant ∙ ap (cursor_at c.args.self.now.bytes.now) (omega arith)
