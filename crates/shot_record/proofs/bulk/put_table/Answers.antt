-- `shot_record::bulk::put_table` meets its contract. Assumes nothing.
use Rattle.std.proofs.Common.{sym, ◌∙◌, arith}
use lib.Ieee.{nan}
use Rattle.shot_record.specs.Answers.{of_pattern}
use Rattle.shot_record.proofs.Filling.{all_filled, map-list}
use Rattle.shot_record.proofs.bulk.put_table.Invariants.{pattern, entry}
use Rattle.shot_record.proofs.bulk.put_table.Goals as goal

pub returns : goal.returns
returns c =
    let x = c.args in
    all_filled (entry x.bytes.now x.at) nan c.loop-k.entries 511 c.loop-k.k c.loop-k.invariant (omega arith)
    ∙ sym (map-list of_pattern (pattern x.bytes.now x.at) 511)
