-- `oracle_exports::oracle_object_xy` meets its contract: 0 / 0 is the NaN of an unknown id. Assumes nothing.
use mathlib.Core.Path.{sym, ap, ◌∙◌}
use lib.Ieee.{div, round, of_bits, of_fields, odd}
use Rattle.std.specs.Prelude.{Option}
use Rattle.board.specs.declared.ObjectPoint.{ObjectPoint}
use Rattle.board.specs.Layout.{object_point}
use Rattle.oracle_exports.specs.Words.{axis_of_point}
use Rattle.oracle_exports.proofs.oracle_object_xy.Goals as goal

pub returns-in-None : goal.returns-in-None
unfolding div round of_bits of_fields odd
returns-in-None c =
    let b = c.board_of.ensures in
    ap (λ (o : Option ObjectPoint). axis_of_point o c.args.axis)
    (sym c.in-None.is ∙ c.charuco_object_xy-point.ensures ∙ (λ k. object_point (b k).rows (b k).cols (b k).cell_size c.args.id))
