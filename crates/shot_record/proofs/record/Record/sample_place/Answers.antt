-- `shot_record::cells::Record::sample_place` meets its contract. Assumes nothing.
use Rattle.std.proofs.Common.{ℕ, ◌+◌, ap, arith}
use Rattle.shot_record.proofs.Walks.{walk_start, walk_reach}
use Rattle.shot_record.proofs.record.Record.sample_place.Goals as goal

pub overflow_add-result : goal.overflow_add-result
overflow_add-result c = omega (arith, walk_reach c.args.self.now c.args.c c.requires)

pub returns : goal.returns
returns c = ap (λ (n : ℕ). n + 4) (walk_start c.args.self.now c.args.c c.requires)
