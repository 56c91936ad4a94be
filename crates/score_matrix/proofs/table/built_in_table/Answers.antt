-- `score_matrix::table::built_in_table` meets its contract: the 511 numbers have the bit patterns of the definition. Assumes nothing.
use mathlib.Core.Path.{refl}
use lib.Ieee.{of_bits}
use Rattle.score_matrix.specs.Table.{patterns, built_in}
use Rattle.score_matrix.proofs.table.built_in_table.Goals as goal

pub returns : goal.returns
unfolding of_bits patterns built_in
returns c = refl
