-- `corner_mapping::map_charuco_corners` meets its contract: by whether a board was made. Assumes nothing.
use mathlib.Core.Path.{sym, ◌∙◌}
use Rattle.std.proofs.lemmas.Result.{err_from_is_err_and}
use Rattle.corner_mapping.proofs.Answered.{small-board, on-board, no_board}
use Rattle.corner_mapping.proofs.map_charuco_corners.Goals as goal

pub map_onto-requires : goal.map_onto-requires
map_onto-requires c = small-board _ _ c.in_ok-board.board (sym c.new.ensures ∙ c.in_ok-board.was)

pub returns-in_err-board : goal.returns-in_err-board
returns-in_err-board c =
    let p = err_from_is_err_and c.from_residual.result c.from_residual.ensures.1 in
    let q = no_board _ _ c.args.scores.now c.args.grid.now c.args.alignment c.args.corners.now _ (sym c.new.ensures ∙ c.in_err-board.was) in
    record { answer = rw (p.1, p.2) q.0; list = q.1 }

pub returns : goal.returns
returns c =
    let q = on-board _ _ c.args.scores.now c.args.grid.now c.args.alignment c.args.corners.now _ _ _ (sym c.new.ensures ∙ c.in_ok-board.was)
    c.map_onto.ensures.answer c.map_onto.ensures.list in
    record { answer = q.0; list = q.1 }
