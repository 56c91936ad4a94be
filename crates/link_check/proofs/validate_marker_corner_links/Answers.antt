-- `link_check::validate_marker_corner_links` meets its contract: question by question. Assumes nothing.
use mathlib.Core.Path.{◌≡◌, sym, ◌∙◌}
use borrow.Author.Tests.{le-leb, lt-leb}
use Rattle.std.specs.Prelude.{Ok}
use Rattle.std.proofs.lemmas.Result.{err_from_is_err_and}
use Rattle.board.specs.Questions.{new_board}
use Rattle.link_check.proofs.Answers.{board-refused, too_many, too_short, all_checked}
use Rattle.link_check.proofs.validate_marker_corner_links.Goals as goal
use Rattle.link_check.proofs.validate_marker_corner_links.Goals.{In_ok-board}

-- the board that was made
made : (c : In_ok-board) → new_board c.args.spec c.args.codes.now ≡ Ok c.in_ok-board.board
made c = sym c.new.ensures ∙ c.in_ok-board.was

pub returns-in_err-board : goal.returns-in_err-board
returns-in_err-board c =
    let x = c.args in
    let e = err_from_is_err_and c.from_residual.result c.from_residual.ensures.1 in
    let p = board-refused x.spec x.codes.now x.mode x.links.now x.violations.now _ (sym c.new.ensures ∙ c.in_err-board.was) in
    record { answer = rw (e.1, e.2) p.0; list = p.1 }

pub returns-then-n-gt4096 : goal.returns-then-n-gt4096
returns-then-n-gt4096 c =
    let x = c.args in
    let m = made (goal.at.returns-then-n-gt4096 c).In_ok-board in
    let p = too_many x.spec x.codes.now x.mode x.links.now x.violations.now c.in_ok-board.board m (lt-leb _ _ c.if-n-gt4096.true) in
    record { answer = p.0; list = p.1 }

pub returns-then-violations-n : goal.returns-then-violations-n
returns-then-violations-n c =
    let x = c.args in
    let m = made (goal.at.returns-then-violations-n c).In_ok-board in
    let p =
    too_short x.spec x.codes.now x.mode x.links.now x.violations.now c.in_ok-board.board m (le-leb _ _ c.if-n-gt4096.false)
    (lt-leb _ _ c.if-violations-n.true) in
    record { answer = p.0; list = p.1 }

pub returns : goal.returns
returns c =
    let x = c.args in
    let m = made (goal.at.returns c).In_ok-board in
    let p =
    all_checked x.spec x.codes.now x.mode x.links.now x.violations.now c.in_ok-board.board m _ c.check-end.result (le-leb _ _ c.if-n-gt4096.false)
    (le-leb _ _ c.if-violations-n.false) c.check-end.ensures in
    record { answer = p.0; list = p.1 }
