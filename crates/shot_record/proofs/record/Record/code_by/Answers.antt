-- `shot_record::questions::Record::code_by` meets its contract. Assumes nothing.
use Rattle.std.proofs.Common.{ℕ, List, get_or, ap, ◌∙◌, arith}
use Rattle.shot_record.specs.Shots.{shot}
use Rattle.shot_record.proofs.Lists.{get_d_list}
use Rattle.shot_record.proofs.Reading.{code_is}
use Rattle.shot_record.proofs.Records.{found_in}
use Rattle.shot_record.proofs.record.Record.code_by.Goals as goal

pub returns-then-k-lt512 : goal.returns-then-k-lt512
returns-then-k-lt512 c =
    let x = c.args in
    ap (λ (l : List ℕ). get_or l x.k 0) c.requires.1
    ∙ get_d_list (λ (k : ℕ). get_or (shot x.self.now.bytes.now).codes k 0) 512 x.k 0 c.if-k-lt512.true

pub returns : goal.returns
returns c =
    let r = c.args.self.now in
    c.code.ensures ∙ code_is r.bytes.now c.args.k (omega (arith, (found_in r).code_count_is))
