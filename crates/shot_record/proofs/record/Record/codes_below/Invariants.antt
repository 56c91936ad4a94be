-- `shot_record::questions::Record::codes_below` meets its contract. The loop's invariant: the result for the codes from k on is the result for all.
-- Assumes nothing.
use Rattle.std.proofs.Common.{◌≡◌, ℕ, List, drop}
use Rattle.board.specs.Questions.{codes_answer}
use Rattle.shot_record.specs.Shots.{shot}
use Rattle.shot_record.proofs.record.Record.codes_below.Given as goal

abbrev pub codes : List ℕ → List ℕ
codes bytes = (shot bytes).codes

abbrev pub invariant-loop-k : goal.invariant-loop-k
invariant-loop-k l = codes_answer l.bits (drop l.k (codes l.self.bytes.now)) ≡ codes_answer l.bits (codes l.self.bytes.now)
