-- `oracle_exports::scores::oracle_table_entry` meets its contract. Assumes nothing.
use mathlib.Core.Path.{ap, sym}
use mathlib.Core.List.{List}
use lib.ListN.{get_or, get_or-eq_default}
use lib.Ieee.{Float, nan, div, of_bits, of_fields, odd}
use Rattle.score_matrix.specs.Table.{patterns, built_in}
use Rattle.oracle_exports.proofs.scores.oracle_table_entry.Goals as goal

pub returns-then-i-lt511 : goal.returns-then-i-lt511
returns-then-i-lt511 c = ap (λ (l : List Float). get_or l c.args.i nan) c.built_in_table-entries.ensures

pub returns : goal.returns
unfolding patterns built_in div of_bits of_fields odd
returns c = sym (get_or-eq_default built_in nan c.if-i-lt511.false)
