-- `shot_record::numbers::eight_at` meets its contract. Assumes nothing.
use Rattle.std.proofs.Common.{arith}
use Rattle.shot_record.proofs.Reading.{number_split}
use Rattle.shot_record.proofs.numbers.eight_at.Goals as goal

pub returns : goal.returns
returns c = omega (arith, number_split c.args.bytes.now 4 4 c.args.at)
