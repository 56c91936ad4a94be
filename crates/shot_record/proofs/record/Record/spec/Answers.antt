-- `shot_record::fields::Record::spec` meets its contract. Assumes nothing.
use Rattle.std.proofs.Common.{ℕ, List, ◌+◌, ap₂, arith}
use Rattle.board.specs.declared.CharucoBoardSpec.{CharucoBoardSpec}
use Rattle.shot_record.specs.Fields.{byte, is_set, number}
use Rattle.shot_record.specs.Answers.{of_pattern}
use Rattle.shot_record.proofs.Reading.{found_reach}
use Rattle.shot_record.proofs.Records.{found_in}
use Rattle.shot_record.proofs.record.Record.spec.Goals as goal

-- the specification from the map byte and the offset of the rows
abbrev spec_at : ℕ → ℕ → List ℕ → CharucoBoardSpec
spec_at map at bytes =
    record {
      rows = byte at bytes;
      cols = byte (at + 1) bytes;
      bits = byte (at + 2) bytes;
      border_bits = byte (at + 3) bytes;
      legacy_pattern = is_set map 4;
      cell_size = of_pattern (number 4 (at + 4) bytes);
      marker_size_rel = of_pattern (number 4 (at + 8) bytes);
    }

pub returns : goal.returns
returns c =
    let f = found_in c.args.self.now in
    rw (
      c.float_at-2.ensures,
      c.float_at.ensures,
      c.is_set.ensures,
      c.byte_at-4.ensures,
      c.byte_at-3.ensures,
      c.byte_at-2.ensures,
      c.byte_at.ensures,
    )
    (ap₂ (λ (map at : ℕ). spec_at map at c.args.self.now.bytes.now) f.map f.rows_at)

pub overflow_add-at : goal.overflow_add-at
overflow_add-at c = omega (arith, found_reach _ _ c.args.self.now.located)

pub overflow_add-at-2 : goal.overflow_add-at-2
overflow_add-at-2 c = omega (arith, found_reach _ _ c.args.self.now.located)

pub overflow_add-at-3 : goal.overflow_add-at-3
overflow_add-at-3 c = omega (arith, found_reach _ _ c.args.self.now.located)

pub overflow_add-at-4 : goal.overflow_add-at-4
overflow_add-at-4 c = omega (arith, found_reach _ _ c.args.self.now.located)

pub float_at-requires : goal.float_at-requires
float_at-requires c = omega (arith, found_reach _ _ c.args.self.now.located)

pub overflow_add-at-5 : goal.overflow_add-at-5
overflow_add-at-5 c = omega (arith, found_reach _ _ c.args.self.now.located)

pub float_at-requires-2 : goal.float_at-requires-2
float_at-requires-2 c = omega (arith, found_reach _ _ c.args.self.now.located)
