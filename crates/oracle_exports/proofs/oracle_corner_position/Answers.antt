-- `oracle_exports::oracle_corner_position` meets its contract. Assumes nothing.
use mathlib.Core.Path.{ap, ◌∙◌}
use Rattle.board.specs.Layout.{corner_place}
use Rattle.oracle_exports.specs.Words.{place_word}
use Rattle.oracle_exports.proofs.oracle_corner_position.Goals as goal

pub returns : goal.returns
returns c =
    let b = c.board_of.ensures in
    c.place_word.ensures
    ∙ ap place_word (c.board_corner.ensures ∙ (λ k. corner_place (b k).rows (b k).cols c.args.id))
