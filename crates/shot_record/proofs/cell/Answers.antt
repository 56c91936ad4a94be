-- `shot_record::cell` meets its contract. Assumes nothing.
use Rattle.std.proofs.Common.{refl, ap, ◌∙◌, ◌<◌, ◌≤◌, Some, Ok, arith}
use Rattle.std.proofs.lemmas.Result.{err_from_is_err_and}
use Rattle.shot_record.specs.declared.cells.Cursor.{Cursor}
use Rattle.shot_record.specs.Fields.{cell_count}
use Rattle.shot_record.specs.Shots.{cell_of}
use Rattle.shot_record.specs.Answers.{cell_with}
use Rattle.shot_record.proofs.Lists.{get_elem?_list, get_elem?_list_past}
use Rattle.shot_record.proofs.Records.{found_in}
use Rattle.shot_record.proofs.Walks.{at-cell}
use Rattle.shot_record.proofs.Whole.{refused, read_as}
use Rattle.shot_record.proofs.cell.Goals as goal

pub returns-in_err-record : goal.returns-in_err-record
returns-in_err-record c =
    let p = err_from_is_err_and c.from_residual.result c.from_residual.ensures.1 in
    let h = c.in_err-record.ensures.refused in
    rw (p.1, p.2, h.0, refused _ h.1) refl

pub returns-then-record-k : goal.returns-then-record-k
returns-then-record-k c =
    let bytes = c.in_ok-record.record.bytes.now in
    let h = c.in_ok-record.ensures.whole in
    let f = found_in c.in_ok-record.record in
    let past : cell_count bytes ≤ c.args.k = omega arith in
    rw (read_as _ _ h.0 h.1, get_elem?_list_past (cell_of bytes) (cell_count bytes) c.args.k past) refl

pub cell-requires : goal.cell-requires
cell-requires c = at-cell c.in_ok-record.record c.seek-at.result c.args.k c.seek-at.ensures c.if-record-k.false

pub returns : goal.returns
returns c =
    let bytes = c.in_ok-record.record.bytes.now in
    let h = c.in_ok-record.ensures.whole in
    let f = found_in c.in_ok-record.record in
    let inside : c.args.k < cell_count bytes = omega arith in
    let cell = c.cell.ensures ∙ ap (λ (w : Cursor). cell_with (cell_of bytes w.cell)) c.seek-at.ensures in
    rw (read_as _ _ h.0 h.1, get_elem?_list (cell_of bytes) (cell_count bytes) c.args.k inside) (ap (λ x. Ok (Some x)) cell)
