-- `shot_record::table_entry` meets its contract. Assumes nothing.
use Rattle.std.proofs.Common.{refl, ap, ◌<◌, ◌≤◌, length, Some, Ok, arith}
use Rattle.std.proofs.lemmas.Result.{err_from_is_err_and}
use Rattle.shot_record.specs.Shots.{shot}
use Rattle.shot_record.proofs.Lists.{get_elem?_inside, get_elem?_past}
use Rattle.shot_record.proofs.Reading.{table_size}
use Rattle.shot_record.proofs.Whole.{refused, read_as}
use Rattle.shot_record.proofs.table_entry.Goals as goal

pub returns-in_err-record : goal.returns-in_err-record
returns-in_err-record c =
    let p = err_from_is_err_and c.from_residual.result c.from_residual.ensures.1 in
    let h = c.in_err-record.ensures.refused in
    rw (p.1, p.2, h.0, refused _ h.1) refl

pub returns-then-k-gt510 : goal.returns-then-k-gt510
returns-then-k-gt510 c =
    let s = shot c.in_ok-record.record.bytes.now in
    let h = c.in_ok-record.ensures.whole in
    let past : length s.table ≤ c.args.k = omega (arith, table_size c.in_ok-record.record.bytes.now) in
    rw (read_as _ _ h.0 h.1, get_elem?_past s.table c.args.k past) refl

pub returns : goal.returns
returns c =
    let s = shot c.in_ok-record.record.bytes.now in
    let h = c.in_ok-record.ensures.whole in
    let inside : c.args.k < length s.table = omega (arith, table_size c.in_ok-record.record.bytes.now) in
    rw (read_as _ _ h.0 h.1, get_elem?_inside s.table c.args.k 0 inside) (ap (λ x. Ok (Some x)) c.table_entry.ensures)
