-- `charuco::matches::charuco_match_board_with_scores` meets its contract. Assumes nothing.
use mathlib.Core.Path.{ap, subst}
use Rattle.board_match.specs.Accuracy.{Accuracy}
use Rattle.charuco.specs.Entries.{match_told}
use Rattle.charuco.proofs.Giving.{telling}
use Rattle.charuco.proofs.matches.charuco_match_board_with_scores.Goals as goal

pub returns : goal.returns
returns c =
    let b = c.match_board_with_scores-answer.ensures in record {
      answer = telling (ap match_told b.answer) c.tell_match.ensures;
      list = b.list;
      scores = b.scores;
      accuracy = subst (Accuracy c.args.bytes.now) b.answer b.accuracy;
    }
