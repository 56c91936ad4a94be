-- `oracle_exports::oracle_marker_position` meets its contract. Assumes nothing.
use mathlib.Core.Path.{ap, ◌∙◌}
use Rattle.board.specs.Layout.{marker_square}
use Rattle.oracle_exports.specs.Words.{place_word}
use Rattle.oracle_exports.proofs.oracle_marker_position.Goals as goal

pub returns : goal.returns
returns c =
    let b = c.board_of.ensures in
    c.place_word.ensures
    ∙ ap place_word (c.marker_position.ensures ∙ (λ k. marker_square (b k) c.args.id))
