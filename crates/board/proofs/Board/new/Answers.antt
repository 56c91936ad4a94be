-- `board::Board::new` meets its contract: the questions up to 7, then 8 and 22. Assumes nothing.
use mathlib.Core.Path.{◌≡◌, sym, ap, ◌∙◌}
use mathlib.Core.Bool.{not}
use Prim.Native.Nat.{ℕ}
use lib.ListN.{length}
use Rattle.std.specs.Prelude.{Ok}
use Rattle.std.proofs.lemmas.Result.{err_from_is_err_and}
use Rattle.alike.specs.Alike.{two_alike}
use Rattle.board.specs.Questions.{sized_board}
use Rattle.board.proofs.Asked.{sized_bits, sized_count, then_codes, sized_refused}
use Rattle.board.proofs.Board.new.Goals as goal
use Rattle.board.proofs.Board.new.Goals.{In_ok-board}

-- the board that passed the questions up to 7
board-made : (c : In_ok-board) → sized_board c.args.spec (length c.args.codes.now) ≡ Ok c.in_ok-board.board
board-made c = sym c.sized.ensures ∙ c.in_ok-board.was

pub judged-requires : goal.judged-requires
judged-requires c = sized_bits c.args.spec (length c.args.codes.now) c.in_ok-board.board (board-made (goal.at.judged-requires c).In_ok-board)

pub returns : goal.returns
returns c =
    let b = c.in_ok-board.board in
    let made = board-made (goal.at.returns c).In_ok-board in
    c.judged.ensures
    ∙ then_codes c.args.spec c.args.codes.now b _ _ (sym made) c.codes.ensures
    (ap (λ (n : ℕ). not (two_alike b.bits c.args.codes.now n)) (sized_count c.args.spec (length c.args.codes.now) b made))

pub returns-in_err-board : goal.returns-in_err-board
returns-in_err-board c =
    let p = err_from_is_err_and c.from_residual.result c.from_residual.ensures.1 in
    rw (p.1, p.2) (sized_refused c.args.spec c.args.codes.now _ (sym c.in_err-board.was ∙ c.sized.ensures))
