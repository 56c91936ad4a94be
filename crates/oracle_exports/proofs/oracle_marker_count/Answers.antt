-- `oracle_exports::oracle_marker_count` meets its contract. Assumes nothing.
use mathlib.Core.Path.{ap, ◌∙◌}
use Rattle.board.specs.Layout.{marker_total}
use Rattle.oracle_exports.proofs.oracle_marker_count.Goals as goal

pub returns : goal.returns
returns c = c.marker_count.ensures ∙ ap marker_total c.board_of.ensures
