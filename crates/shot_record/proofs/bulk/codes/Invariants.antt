-- `shot_record::bulk::codes` meets its contract. The loop's invariant: the first k elements are their codes, the others 0. Assumes nothing.
use Rattle.std.proofs.Common.{◌≡◌, ℕ, List, ◌≤◌, ◌<◌, get_or}
use Rattle.shot_record.specs.Shots.{shot}
use Rattle.shot_record.proofs.Filling.{Filled}
use Rattle.shot_record.proofs.bulk.codes.Given as goal

abbrev pub code_of : List ℕ → ℕ → ℕ
code_of bytes k = get_or (shot bytes).codes k 0

abbrev pub invariant-loop-k : goal.invariant-loop-k
invariant-loop-k l =
    record { filled : Filled (code_of l.input.bytes.now) 0 l.codes 512 l.k; clear : (i : ℕ) → l.k ≤ i → i < 512 → get_or l.codes i 0 ≡ 0 }
