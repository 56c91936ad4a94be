-- `score_matrix::cell::next_place` meets its contract. Assumes nothing.
use Rattle.score_matrix.proofs.Places.{next_column, next_row}
use Rattle.score_matrix.proofs.cell.next_place.Goals as goal

pub returns-then-p-bits : goal.returns-then-p-bits
returns-then-p-bits c k e =
    next_column c.args.bits k c.args.p c.requires.1 e c.if-p-bits.true

pub returns : goal.returns
returns c k e =
    next_row c.args.bits k c.args.p c.requires.1 e c.if-p-bits.false
