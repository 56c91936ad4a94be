-- `shot_record::cells::Record::next` meets its contract. Assumes nothing.
use Rattle.std.proofs.Common.{◌≡◌, ℕ, suc, ◌+◌, sym, ap, ap₂, ◌∙◌, add-one, arith}
use Rattle.shot_record.specs.declared.cells.Cursor.{Cursor}
use Rattle.shot_record.specs.Fields.{cell_length, point_size, cell_map, sampled, cell_at}
use Rattle.shot_record.proofs.Reading.{grid_reach, count_reach, start_reach}
use Rattle.shot_record.proofs.Records.{found_in}
use Rattle.shot_record.proofs.Walks.{walk_start}
use Rattle.shot_record.proofs.record.Record.next.Goals as goal
use Rattle.shot_record.proofs.record.Record.next.Goals.{After-cell_length}

pub overflow_add-result : goal.overflow_add-result
overflow_add-result c =
    let r = c.args.self.now in
    omega (arith, c.requires.1, count_reach r.bytes.now r.small)

pub cell_length-requires : goal.cell_length-requires
cell_length-requires c =
    let r = c.args.self.now in
    omega (arith, (found_in r).grid_size_is, grid_reach r.bytes.now r.small)

-- the next cell's start
ends : (c : After-cell_length) → c.args.c.start + c.cell_length.result ≡ cell_at c.args.self.now.bytes.now (suc c.args.c.cell)
unfolding cell_at
ends c =
    let r = c.args.self.now in
    let k = c.args.c.cell in
    ap₂ ◌+◌ (walk_start r c.args.c c.requires)
    (c.cell_length.ensures (cell_map r.bytes.now) k c.is_sampled.ensures
    ∙ ap (cell_length point_size (sampled r.bytes.now k)) (found_in r).grid_size_is)

pub overflow_add-result-2 : goal.overflow_add-result-2
overflow_add-result-2 c =
    let r = c.args.self.now in
    omega (
      arith,
      ends (goal.at.overflow_add-result-2 c).After-cell_length,
      start_reach r.bytes.now r.small (suc c.args.c.cell),
      c.requires.1,
      count_reach r.bytes.now r.small,
    )

abbrev from : ℕ → ℕ → Cursor
from k at = record { cell = k; start = at }

pub returns : goal.returns
returns c =
    let k = c.args.c.cell in
    ap (from (k + 1)) (ends (goal.at.returns c).After-cell_length ∙ ap (cell_at c.args.self.now.bytes.now) (sym (add-one k)))
