-- An iteration at a cell of a record: which cell it is, and bounds of its offsets. Assumes nothing.
use Rattle.std.proofs.Common.{◌≡◌, ℕ, ◌^◌, ◌≤◌, ◌<◌, ap, sym, ◌∙◌, arith}
use Rattle.shot_record.specs.declared.record.Record.{Record}
use Rattle.shot_record.specs.declared.cells.Cursor.{Cursor}
use Rattle.shot_record.specs.Fields.{cell_at, cursor_at, AtCell}
use Rattle.shot_record.proofs.Reading.{count_reach, start_reach}
use Rattle.shot_record.proofs.Records.{found_in}

-- an iteration that reached a cell
pub at-cell : (r : Record) (c : Cursor) (k : ℕ) → c ≡ cursor_at r.bytes.now k → k < r.fields.cell_count → AtCell r.bytes.now c
at-cell r c k e h =
    let f = found_in r in
    let cell = ap (λ (d : Cursor). d.cell) e in
    (e ∙ ap (cursor_at r.bytes.now) (sym cell), omega arith)

module _ (r : Record) (c : Cursor) (w : AtCell r.bytes.now c) where
  pub walk_start : c.start ≡ cell_at r.bytes.now c.cell
  walk_start = ap (λ (d : Cursor). d.start) w.0

  pub walk_reach : c.start ≤ 2 ^ 39
  walk_reach = omega (arith, walk_start, start_reach r.bytes.now r.small c.cell, w.1, count_reach r.bytes.now r.small)
