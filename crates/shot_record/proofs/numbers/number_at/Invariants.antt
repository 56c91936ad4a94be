-- `shot_record::numbers::number_at` meets its contract. The loop's invariant: x has the bytes from at + k on. Assumes nothing.
use mathlib.Core.Path.{◌≡◌}
use Prim.Native.Nat.{◌+◌, ◌-◌, ◌*◌, ◌^◌, ◌<◌}
use Rattle.shot_record.specs.Fields.{number}
use Rattle.shot_record.proofs.numbers.number_at.Given as goal

abbrev pub invariant-loop-k : goal.invariant-loop-k
invariant-loop-k l = record { value : l.x ≡ number (l.n - l.k) (l.at + l.k) l.bytes; below : l.x < 2 ^ (8 * (l.n - l.k)) }
