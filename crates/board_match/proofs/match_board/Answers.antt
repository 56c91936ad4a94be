-- `board_match::match_board` meets its contract. Assumes nothing.
use mathlib.Core.Path.{◌≡◌, sym, subst}
use Rattle.std.specs.Prelude.{List, ℕ, Result, Err}
use Rattle.std.proofs.lemmas.Result.{err_from_is_err_and}
use Rattle.refusal.specs.declared.Refusal.{Refusal}
use Rattle.shot_record.proofs.Reading.{Small}
use Rattle.board_match.specs.declared.Match.{Match}
use Rattle.board_match.specs.Match.{Gives, match_answer, match_list}
use Rattle.board_match.specs.Accuracy.{Accuracy}
use Rattle.board_match.proofs.Placing.{refused-answer}
use Rattle.board_match.proofs.Accurately.{match_accurate}
use Rattle.board_match.proofs.match_board.Goals as goal

-- the three contracts, from the result and the output array
promised : (bytes lent : List ℕ) (r : Result Match Refusal) (exit : List ℕ) → Small bytes → Gives bytes lent r exit
    → record { answer : r ≡ match_answer bytes lent; list : exit ≡ match_list bytes lent; accuracy : Accuracy bytes r }
promised bytes lent r exit small g =
    record { answer = g.answers; list = g.leaves; accuracy = subst (Accuracy bytes) (sym g.answers) (match_accurate bytes lent small) }

pub returns-in_err-loaded : goal.returns-in_err-loaded
returns-in_err-loaded c =
    let lent = c.args.markers.now in
    let p = err_from_is_err_and c.from_residual.result c.from_residual.ensures.1 in
    rw (p.1, p.2)
    (promised c.args.bytes.now lent (Err c.in_err-loaded.field-0.0) lent (λ i. (c.type_inv.bytes i).fits)
    (refused-answer c.args.bytes.now lent _ c.in_err-loaded.ensures.refused))

pub returns : goal.returns
returns c =
    let lent = c.args.markers.now in
    let done = c.place_found in
    let gives = subst (λ (bytes : List ℕ). Gives bytes lent done.result done.new.markers) c.in_ok-loaded.ensures.passed.0 done.ensures in
    promised c.args.bytes.now lent done.result done.new.markers (λ i. (c.type_inv.bytes i).fits) gives
