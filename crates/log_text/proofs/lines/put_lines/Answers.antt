-- `log_text::lines::put_lines` meets its contract: line by line. Assumes nothing.
use native.Mathlib.Omega.{arith}
use lib.ListN.{length-append}
use Rattle.place_text.proofs.Printing.{then}
use Rattle.log_text.specs.Lines.{order_line, entry_line, shot_answer, entry_lines}
use Rattle.log_text.proofs.lines.put_lines.Goals as goal

pub returns : goal.returns
unfolding entry_lines
returns c =
    let n = c.args.n in record {
      lines = then c.put_order.ensures.line c.put_entry.ensures.line;
      room = omega (
        arith,
        length-append (order_line c.args.highest n) (entry_line n (shot_answer c.args.shot.now)),
        c.put_order.ensures.room,
        c.put_entry.ensures.room,
      );
    }
