-- `board_match::match_board_with_scores` meets its contract. Assumes nothing.
use mathlib.Core.Path.{◌≡◌, sym, subst}
use Rattle.std.specs.Prelude.{List, ℕ, Float, Result, Err}
use Rattle.std.proofs.lemmas.Result.{err_from_is_err_and}
use Rattle.refusal.specs.declared.Refusal.{Refusal}
use Rattle.shot_record.proofs.Reading.{Small}
use Rattle.board_match.specs.declared.Match.{Match}
use Rattle.board_match.specs.Scores.{GivesScored, scored_answer, scored_list, scores_left}
use Rattle.board_match.specs.Accuracy.{Accuracy}
use Rattle.board_match.proofs.Engines.{refused_scored, scored_accurate}
use Rattle.board_match.proofs.match_board_with_scores.Goals as goal

-- the four contracts, from the result and the output arrays
promised : (bytes : List ℕ) (scores : List Float) (lent : List ℕ) (r : Result Match Refusal) (filled : List Float) (exit : List ℕ) → Small bytes
    → GivesScored bytes scores lent r filled exit
    → record {
      answer : r ≡ scored_answer bytes scores lent;
      list : exit ≡ scored_list bytes scores lent;
      scores : filled ≡ scores_left bytes scores lent;
      accuracy : Accuracy bytes r;
    }
promised bytes scores lent r filled exit small g =
    record {
      answer = g.answers;
      list = g.leaves;
      scores = g.fills;
      accuracy = subst (Accuracy bytes) (sym g.answers) (scored_accurate bytes scores lent small);
    }

pub returns-in_err-loaded : goal.returns-in_err-loaded
returns-in_err-loaded c =
    let scores = c.args.scores.now in
    let lent = c.args.markers.now in
    let p = err_from_is_err_and c.from_residual.result c.from_residual.ensures.1 in
    rw (p.1, p.2)
    (promised c.args.bytes.now scores lent (Err c.in_err-loaded.field-0.0) scores lent (λ i. (c.type_inv.bytes i).fits)
    (refused_scored c.args.bytes.now scores lent _ c.in_err-loaded.ensures.refused))

pub returns : goal.returns
returns c =
    let scores = c.args.scores.now in
    let lent = c.args.markers.now in
    let done = c.match_scored in
    let gives = subst (λ (bytes : List ℕ). GivesScored bytes scores lent done.result done.new.scores done.new.markers) c.in_ok-loaded.ensures.passed.0 done.ensures in
    promised c.args.bytes.now scores lent done.result done.new.scores done.new.markers (λ i. (c.type_inv.bytes i).fits) gives
