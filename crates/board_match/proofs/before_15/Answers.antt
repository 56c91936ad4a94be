-- `board_match::before_15` meets its contract. Assumes nothing.
use mathlib.Core.Path.{◌≡◌}
use Rattle.std.specs.Prelude.{Ok}
use Rattle.std.proofs.lemmas.Result.{err_from_is_err_and}
use Rattle.board.specs.Questions.{new_board}
use Rattle.shot_record.specs.Shots.{shot}
use Rattle.shot_record.specs.Answers.{spec_of}
use Rattle.board_match.proofs.Answered.{board-refused, later-refused, all_passed, inputs-are}
use Rattle.board_match.proofs.before_15.Goals as goal
use Rattle.board_match.proofs.before_15.Goals.{In_ok-board}

-- the board that was made
board_made : (c : In_ok-board) → Ok c.in_ok-board.board ≡ new_board (spec_of (shot c.args.input.now.bytes.now)) (shot c.args.input.now.bytes.now).codes
board_made c = c.in_ok-board.ensures

pub returns-in_err-board : goal.returns-in_err-board
returns-in_err-board c =
    let p = err_from_is_err_and c.from_residual.result c.from_residual.ensures.1 in
    rw (p.1, p.2) (board-refused (shot c.args.input.now.bytes.now) c.args.words _ c.in_err-board.ensures)

pub returns-in_err-from_9 : goal.returns-in_err-from_9
returns-in_err-from_9 c =
    let p = err_from_is_err_and c.from_residual-in_err-from_9.result c.from_residual-in_err-from_9.ensures.1 in
    rw (p.1, p.2)
    (later-refused (shot c.args.input.now.bytes.now) c.args.words _ (board_made (goal.at.returns-in_err-from_9 c).In_ok-board) _
    c.in_err-from_9.ensures)

pub returns : goal.returns
returns c =
    let record_now = c.args.input.now in
    let made = board_made (goal.at.returns c).In_ok-board in
    all_passed (shot record_now.bytes.now) c.args.words _ made _ (inputs-are record_now.bytes.now _ record_now.located _ made _ c.config-config.ensures)
    c.in_ok-from_9.ensures
