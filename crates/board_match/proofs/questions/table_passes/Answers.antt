-- `board_match::questions::table_passes` meets its contract. Assumes nothing.
use mathlib.Core.Path.{sym, ap, ◌∙◌}
use mathlib.Core.Bool.{not}
use mathlib.Core.List.{List, map}
use Prim.Native.Nat.{ℕ}
use lib.Ieee.Bits.{is_true}
use Rattle.score_matrix.specs.Table.{is_table, built_in}
use Rattle.score_matrix.proofs.Ranges.{built_in-passes}
use Rattle.shot_record.specs.Answers.{of_pattern}
use Rattle.shot_record.proofs.Reading.{built_in-table}
use Rattle.board_match.proofs.questions.table_passes.Goals as goal

pub returns-then-not-sets_table : goal.returns-then-not-sets_table
unfolding built_in
returns-then-not-sets_table c =
    let e = c.if-not-sets_table.true in
    ap not e
    ∙ sym (is_true (is_table built_in) built_in-passes)
    ∙ ap (λ (l : List ℕ). is_table (map of_pattern l)) (sym (built_in-table _ _ c.args.input.now.located c.sets_table.result c.sets_table.ensures e))
