-- `charuco::matches::charuco_match_board` meets its contract. Assumes nothing.
use mathlib.Core.Path.{ap, subst}
use Rattle.board_match.specs.Accuracy.{Accuracy}
use Rattle.charuco.specs.Entries.{match_told}
use Rattle.charuco.proofs.Giving.{telling}
use Rattle.charuco.proofs.matches.charuco_match_board.Goals as goal

pub returns : goal.returns
returns c =
    let b = c.match_board-answer.ensures in record {
      answer = telling (ap match_told b.answer) c.tell_match.ensures;
      list = b.list;
      accuracy = subst (Accuracy c.args.bytes.now) b.answer b.accuracy;
    }
