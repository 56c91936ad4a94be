-- `shot_record::bulk::table` meets its contract. Assumes nothing.
use Rattle.std.proofs.Common.{ap, sym, ◌∙◌, map, arith}
use Rattle.score_matrix.specs.Table.{built_in}
use Rattle.shot_record.specs.Answers.{of_pattern}
use Rattle.shot_record.proofs.Reading.{found_reach, built_in-table, own-table}
use Rattle.shot_record.proofs.bulk.table.Goals as goal

pub put_table-requires : goal.put_table-requires
put_table-requires c = omega (arith, found_reach _ _ c.args.input.now.located)

pub returns-then-sets_table : goal.returns-then-sets_table
returns-then-sets_table c =
    let r = c.args.input.now in
    c.put_table.ensures ∙ ap (map of_pattern) (own-table _ r.bytes.now r.located c.sets_table.result c.sets_table.ensures c.if-sets_table.true)

pub returns-else-sets_table : goal.returns-else-sets_table
unfolding built_in
returns-else-sets_table c =
    let r = c.args.input.now in
    c.requires ∙ ap (map of_pattern) (sym (built_in-table _ r.bytes.now r.located c.sets_table.result c.sets_table.ensures c.if-sets_table.false))
