-- `place_text::format` meets its contract: the page starts at the start of the lent text. Assumes nothing.
use Rattle.std.proofs.Common.{rules}
use Rattle.place_text.proofs.Printing.{whole_length, whole_text}
use Rattle.place_text.proofs.format.Goals as goal

pub returns : goal.returns
returns c =
    let p = c.put_answer.ensures.printed in record { count = whole_length p; list = search (rules, whole_text p) }
