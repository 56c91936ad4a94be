-- `legacy_record::writing::put_code` meets its contract. Assumes nothing.
use Rattle.std.proofs.Common.{◌∙◌}
use Rattle.lent_list.proofs.Front.{put_as}
use Rattle.shot_record.proofs.LittleEndian.{eight_bytes}
use Rattle.legacy_record.proofs.writing.put_code.Goals as goal

pub returns : goal.returns
returns c = put_as (c.to_le_bytes.ensures ∙ eight_bytes c.args.code) c.put.ensures
