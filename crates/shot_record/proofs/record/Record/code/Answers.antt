-- `shot_record::fields::Record::code` meets its contract. Assumes nothing.
use Rattle.std.proofs.Common.{ℕ, ◌+◌, ◌*◌, ◌≤◌, ◌<◌, ◌^◌, ap, ◌∙◌, arith}
use Rattle.shot_record.specs.declared.record.Record.{Record}
use Rattle.shot_record.specs.Fields.{number, rows_at}
use Rattle.shot_record.proofs.Reading.{head_reach, number-below}
use Rattle.shot_record.proofs.Records.{found_in}
use Rattle.shot_record.proofs.record.Record.code.Goals as goal

reach : (r : Record) (k : ℕ) → k < r.fields.code_count → r.fields.rows_at + 14 + 8 * k ≤ 2 ^ 20
reach r k h =
    let f = found_in r in
    let count = number-below r.bytes.now r.small 2 (rows_at r.bytes.now + 12) in
    omega (arith, head_reach r.bytes.now)

pub returns : goal.returns
returns c =
    let r = c.args.self.now in
    c.eight_at.ensures ∙ ap (λ (at : ℕ). number 8 (at + 14 + 8 * c.args.k) r.bytes.now) (found_in r).rows_at

pub overflow_mul-k : goal.overflow_mul-k
overflow_mul-k c = omega (arith, reach c.args.self.now c.args.k c.requires)

pub overflow_add-self : goal.overflow_add-self
overflow_add-self c = omega (arith, reach c.args.self.now c.args.k c.requires)

pub overflow_add-self-2 : goal.overflow_add-self-2
overflow_add-self-2 c = omega (arith, reach c.args.self.now c.args.k c.requires)

pub eight_at-requires : goal.eight_at-requires
eight_at-requires c = omega (arith, reach c.args.self.now c.args.k c.requires)
