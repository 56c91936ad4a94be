-- `converter::put_line` meets its contract. Assumes nothing.
use Rattle.place_text.proofs.Lengths.{refusal_room}
use Rattle.converter.proofs.put_line.Goals as goal

pub returns-clause-room : goal.returns-clause-room
returns-clause-room c = refusal_room c.args.refusal
