-- A located record: its fields are those of its bytes. Assumes nothing.
use Rattle.shot_record.specs.declared.record.Record.{Record}
use Rattle.shot_record.proofs.Reading.{Found, found}

pub found_in : (r : Record) → Found r.fields r.bytes.now
found_in r = found r.fields r.bytes.now r.located
