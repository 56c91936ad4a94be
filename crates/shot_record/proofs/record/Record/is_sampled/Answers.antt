-- `shot_record::cells::Record::is_sampled` meets its contract. Assumes nothing.
use Rattle.std.proofs.Common.{ℕ, ap, ◌∙◌, arith}
use Rattle.shot_record.specs.Fields.{is_set, cell_count, cell_map, map_of}
use Rattle.shot_record.proofs.Reading.{map_reach, count_reach}
use Rattle.shot_record.proofs.Records.{found_in}
use Rattle.shot_record.proofs.record.Record.is_sampled.Goals as goal

pub is_set-requires : goal.is_set-requires
is_set-requires c =
    let r = c.args.self.now in
    let f = found_in r in
    let map = map_reach r.bytes.now r.small in
    let count = count_reach r.bytes.now r.small in
    (omega arith, omega arith)

pub returns : goal.returns
unfolding cell_map
returns c =
    let r = c.args.self.now in
    let f = found_in r in
    c.is_set.ensures (cell_count r.bytes.now) (omega arith)
    ∙ ap (λ (at : ℕ). is_set (map_of (cell_count r.bytes.now) at r.bytes.now) c.args.k) f.cell_map_at_is
