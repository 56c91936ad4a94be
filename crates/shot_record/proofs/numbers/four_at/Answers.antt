-- `shot_record::numbers::four_at` meets its contract. Assumes nothing.
use Rattle.std.proofs.Common.{◌≡◌, ℕ, List, ◌+◌, ◌*◌, ap, ◌∙◌, arith}
use Rattle.shot_record.specs.Fields.{byte, number}
use Rattle.shot_record.proofs.Reading.{number_split, two_bytes}
use Rattle.shot_record.proofs.numbers.four_at.Goals as goal

-- from its two halves
four : (bytes : List ℕ) (at : ℕ)
    → byte at bytes + byte (at + 1) bytes * 256 + byte (at + 2) bytes * 65536 + byte (at + 3) bytes * 16777216 ≡ number 4 at bytes
four bytes at =
    let last : byte (at + 2 + 1) bytes ≡ byte (at + 3) bytes = ap (λ (i : ℕ). byte i bytes) (omega arith) in
    omega (arith, number_split bytes 2 2 at, two_bytes bytes at, two_bytes bytes (at + 2))

pub returns-then-at-bytes : goal.returns-then-at-bytes
returns-then-at-bytes c = c.from_le_bytes.ensures ∙ four c.args.bytes.now c.args.at
