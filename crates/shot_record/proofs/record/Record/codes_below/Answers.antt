-- `shot_record::questions::Record::codes_below` meets its contract. Assumes nothing.
use Rattle.std.proofs.Common.{◌≡◌, ap, sym, ◌∙◌, ◌+◌, ◌≤◌, Bool, true, false, ◌&&◌, length, drop, arith}
use lib.ListN.{drop_of_length-le}
use Rattle.board.specs.Questions.{code_in_range, codes_answer}
use Rattle.board.proofs.Asked.{codes_step}
use Rattle.shot_record.specs.declared.record.Record.{Record}
use Rattle.shot_record.proofs.Reading.{code_count_is}
use Rattle.shot_record.proofs.Records.{found_in}
use Rattle.shot_record.proofs.record.Record.codes_below.Invariants.{codes}
use Rattle.shot_record.proofs.record.Record.codes_below.Goals as goal
use Rattle.shot_record.proofs.record.Record.codes_below.Goals.{After-code}

-- the number of codes
count : (r : Record) → r.fields.code_count ≡ length (codes r.bytes.now)
count r = (found_in r).code_count_is ∙ sym (code_count_is r.bytes.now)

next : (c : After-code) (b : Bool) → c.code.result ≡ b → (b
    && codes_answer c.args.bits (drop (c.loop-k.k + 1) (codes c.args.self.now.bytes.now))) ≡ codes_answer c.args.bits (codes c.args.self.now.bytes.now)
next c b e =
    let r = c.args.self.now in
    let answer = sym (c.code.ensures ∙ ap (code_in_range c.args.bits) c.code_by.ensures) ∙ e in
    sym (codes_step c.args.bits (codes r.bytes.now) c.loop-k.k b (omega (arith, count r)) answer) ∙ c.loop-k.invariant

pub returns-then-not-code : goal.returns-then-not-code
returns-then-not-code c = next (goal.at.returns-then-not-code c).After-code false c.if-not-code.true

pub loop-k-preserved : goal.loop-k-preserved
loop-k-preserved c = next (goal.at.loop-k-preserved c).After-code true c.if-not-code.false

pub returns : goal.returns
returns c =
    let r = c.args.self.now in
    let all : length (codes r.bytes.now) ≤ c.loop-k.k = omega (arith, count r) in
    sym (ap (codes_answer c.args.bits) (drop_of_length-le (codes r.bytes.now) all)) ∙ c.loop-k.invariant
