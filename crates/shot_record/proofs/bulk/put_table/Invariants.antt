-- `shot_record::bulk::put_table` meets its contract. The loop's invariant: the first k entries are written. Assumes nothing.
use Rattle.std.proofs.Common.{ℕ, List, ◌+◌, ◌*◌}
use lib.Ieee.{Float, nan}
use Rattle.shot_record.specs.Fields.{number}
use Rattle.shot_record.specs.Answers.{of_pattern}
use Rattle.shot_record.proofs.Filling.{Filled}
use Rattle.shot_record.proofs.bulk.put_table.Given as goal

abbrev pub pattern : List ℕ → ℕ → ℕ → ℕ
pattern bytes at k = number 4 (at + 4 * k) bytes

abbrev pub entry : List ℕ → ℕ → ℕ → Float
entry bytes at k = of_pattern (pattern bytes at k)

abbrev pub invariant-loop-k : goal.invariant-loop-k
invariant-loop-k l = Filled (entry l.bytes l.at) nan l.entries 511 l.k
