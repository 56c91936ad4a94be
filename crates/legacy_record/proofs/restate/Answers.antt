-- `legacy_record::restate` meets its contract: by question 21, and by whether a board was made. Assumes nothing.
use Rattle.std.proofs.Common.{◌≡◌, sym, ap, ◌∙◌, true}
use Rattle.std.proofs.lemmas.Result.{err_from_is_err_and}
use Rattle.shot_record.specs.Shots.{whole_record}
use Rattle.shot_record.proofs.Whole.{passed, refused}
use Rattle.legacy_record.proofs.Answered.{not_whole, on-board, no_board}
use Rattle.legacy_record.proofs.restate.Goals as goal
use Rattle.legacy_record.proofs.restate.Goals.{In_ok-record}

-- question 21
pub returns-in_err-record : goal.returns-in_err-record
returns-in_err-record c =
    let p = err_from_is_err_and c.from_residual.result c.from_residual.ensures.1 in
    let h = c.in_err-record.ensures.refused in
    let t = not_whole c.args.bytes.now c.args.sheet.now (refused _ h.1) in
    record { answer = rw (p.1, p.2, h.0) t.0; list = t.1 }

whole : (c : In_ok-record) → whole_record c.in_ok-record.record.bytes.now ≡ true
whole c = let h = c.in_ok-record.ensures.whole in ap whole_record h.0 ∙ h.1

-- the board's questions
pub returns-in_err-board : goal.returns-in_err-board
returns-in_err-board c =
    let p = err_from_is_err_and c.from_residual-in_err-board.result c.from_residual-in_err-board.ensures.1 in
    let bytes = c.in_ok-record.record.bytes.now in
    let t = no_board bytes c.args.sheet.now (passed bytes (whole (goal.at.returns-in_err-board c).In_ok-record)) c.in_err-board.field-0.0
    (sym c.board.ensures ∙ c.in_err-board.was) in
    rw (← c.in_ok-record.ensures.whole.0) (record { answer = rw (p.1, p.2) t.0; list = t.1 })

pub returns : goal.returns
returns c =
    let bytes = c.in_ok-record.record.bytes.now in
    let t = on-board bytes c.args.sheet.now (passed bytes (whole (goal.at.returns c).In_ok-record)) c.in_ok-board.board c.restate_on.result
    c.restate_on.new.sheet (sym c.board.ensures ∙ c.in_ok-board.was) c.restate_on.ensures.answer c.restate_on.ensures.list in
    rw (← c.in_ok-record.ensures.whole.0) (record { answer = t.0; list = t.1 })
