-- `oracle_exports::oracle_corner_id` meets its contract. Assumes nothing.
use mathlib.Core.Path.{ap, ◌∙◌}
use mir.Syntax.{w32}
use mir.ValLaws.{to_z-of_z}
use Rattle.board.specs.Layout.{corner_at}
use Rattle.oracle_exports.specs.Words.{id_word}
use Rattle.oracle_exports.proofs.oracle_corner_id.Goals as goal

pub returns : goal.returns
returns c =
    let b = c.board_of.ensures in
    c.id_word.ensures
    ∙ ap id_word
    (c.charuco_corner_id_from_board_corner.ensures
    ∙ (λ k. corner_at (b k).rows (b k).cols (to_z-of_z w32 c.args.i c.ranges.i k) (to_z-of_z w32 c.args.j c.ranges.j k)))
