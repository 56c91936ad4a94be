-- `shot_record::code` meets its contract. Assumes nothing.
use Rattle.std.proofs.Common.{refl, ap, ℕ, List, ◌+◌, ◌*◌, ◌<◌, ◌≤◌, Some, Ok, arith}
use Rattle.std.proofs.lemmas.Result.{err_from_is_err_and}
use Rattle.shot_record.specs.Fields.{number, codes_at, code_count}
use Rattle.shot_record.proofs.Lists.{get_elem?_list, get_elem?_list_past}
use Rattle.shot_record.proofs.Records.{found_in}
use Rattle.shot_record.proofs.Whole.{refused, read_as}
use Rattle.shot_record.proofs.code.Goals as goal

code_of : List ℕ → ℕ → ℕ
code_of bytes k = number 8 (codes_at bytes + 8 * k) bytes

pub returns-in_err-record : goal.returns-in_err-record
returns-in_err-record c =
    let p = err_from_is_err_and c.from_residual.result c.from_residual.ensures.1 in
    let h = c.in_err-record.ensures.refused in
    rw (p.1, p.2, h.0, refused _ h.1) refl

pub returns-then-record-k : goal.returns-then-record-k
unfolding code_of
returns-then-record-k c =
    let bytes = c.in_ok-record.record.bytes.now in
    let h = c.in_ok-record.ensures.whole in
    let f = found_in c.in_ok-record.record in
    let past : code_count bytes ≤ c.args.k = omega arith in
    rw (read_as _ _ h.0 h.1, get_elem?_list_past (code_of bytes) (code_count bytes) c.args.k past) refl

pub returns : goal.returns
unfolding code_of
returns c =
    let bytes = c.in_ok-record.record.bytes.now in
    let h = c.in_ok-record.ensures.whole in
    let f = found_in c.in_ok-record.record in
    let inside : c.args.k < code_count bytes = omega arith in
    rw (read_as _ _ h.0 h.1, get_elem?_list (code_of bytes) (code_count bytes) c.args.k inside) (ap (λ x. Ok (Some x)) c.code.ensures)
