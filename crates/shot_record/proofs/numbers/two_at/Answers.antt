-- `shot_record::numbers::two_at` meets its contract. Assumes nothing.
use Rattle.std.proofs.Common.{◌∙◌}
use Rattle.shot_record.proofs.Reading.{two_bytes}
use Rattle.shot_record.proofs.numbers.two_at.Goals as goal

pub returns-then-at-bytes-clause-value : goal.returns-then-at-bytes-clause-value
returns-then-at-bytes-clause-value c = c.from_le_bytes.ensures ∙ two_bytes c.args.bytes.now c.args.at
