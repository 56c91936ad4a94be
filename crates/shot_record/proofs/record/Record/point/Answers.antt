-- `shot_record::cells::Record::point` meets its contract. Assumes nothing.
use Rattle.std.proofs.Common.{◌≡◌, ℕ, List, ◌+◌, ◌*◌, ap, ◌∙◌, arith}
use Rattle.shot_record.specs.Fields.{number}
use Rattle.shot_record.proofs.Reading.{number_split}
use Rattle.shot_record.proofs.Walks.{walk_start, walk_reach}
use Rattle.shot_record.proofs.record.Record.point.Goals as goal

halves : (bytes : List ℕ) (at : ℕ) → number 4 at bytes ≡ number 2 at bytes + 65536 * number 2 (at + 2) bytes
halves bytes at = omega (arith, number_split bytes 2 2 at)

pub four_at-requires : goal.four_at-requires
four_at-requires c =
    let r = c.args.self.now in
    omega (arith, walk_reach r c.args.c c.requires)

pub returns : goal.returns
returns c =
    let r = c.args.self.now in
    c.four_at.ensures ∙ ap (λ (at : ℕ). number 4 at r.bytes.now) (walk_start r c.args.c c.requires) ∙ halves r.bytes.now _
