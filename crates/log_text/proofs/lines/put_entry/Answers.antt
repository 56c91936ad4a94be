-- `log_text::lines::put_entry` meets its contract: a shot's result depends on the output array only by its length. Assumes nothing.
use mathlib.Core.Path.{◌≡◌, ap, ◌∙◌}
use lib.ListN.{length}
use borrow.Author.Rules.{rules}
use Rattle.shot_record.specs.Shots.{parse}
use Rattle.board_match.specs.Match.{matched_shot}
use Rattle.place_text.specs.Text.{answer_line}
use Rattle.place_text.proofs.Printing.{then, said}
use Rattle.log_text.specs.Lines.{shot_answer}
use Rattle.log_text.proofs.Lengths.{entry-room}
use Rattle.log_text.proofs.lines.put_entry.Goals as goal

pub returns : goal.returns
returns c =
    let shot = c.args.shot.now in
    let words : length c.args.markers.now ≡ 4608 = search rules in
    let answer : c.match_board-answer.result ≡ shot_answer shot = c.match_board-answer.ensures.answer ∙ ap (matched_shot (parse shot)) words in record {
      line = then c.put_all.ensures (then c.and_decimal.ensures (then c.put.ensures (said (ap answer_line answer) c.put_answer.ensures)));
      room = entry-room c.args.n shot c.ranges.n.fits (λ i. (c.type_inv.shot i).fits);
    }
