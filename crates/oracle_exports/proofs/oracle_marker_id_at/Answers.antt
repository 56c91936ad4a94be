-- `oracle_exports::oracle_marker_id_at` meets its contract. Assumes nothing.
use mathlib.Core.Path.{ap, ◌∙◌}
use mir.Syntax.{w32}
use mir.ValLaws.{to_z-of_z}
use Rattle.board.specs.Layout.{marker_on}
use Rattle.oracle_exports.specs.Words.{id_word}
use Rattle.oracle_exports.proofs.oracle_marker_id_at.Goals as goal

pub returns : goal.returns
returns c =
    let b = c.board_of.ensures in
    c.id_word.ensures
    ∙ ap id_word
    (c.marker_id_at.ensures
    ∙ (λ k. marker_on (b k) (to_z-of_z w32 c.args.i c.ranges.i k) (to_z-of_z w32 c.args.j c.ranges.j k)))
