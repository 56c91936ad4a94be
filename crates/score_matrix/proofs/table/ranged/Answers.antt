-- `score_matrix::table::ranged` meets its contract. Assumes nothing.
use lib.Ieee.{neg, of_bits, of_fields, odd}
use Rattle.score_matrix.proofs.table.ranged.Goals as goal

pub returns-then-x : goal.returns-then-x
unfolding neg of_bits of_fields odd
returns-then-x c = rw c.if-x.true

pub returns-else-x : goal.returns-else-x
unfolding neg of_bits of_fields odd
returns-else-x c = rw c.if-x.false
