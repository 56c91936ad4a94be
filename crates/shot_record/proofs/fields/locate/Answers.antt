-- `shot_record::fields::locate` meets its contract. Assumes nothing.
use mathlib.Core.Path.{refl}
use Rattle.shot_record.specs.Fields.{fields_of, threshold_at, px_at, table_at, least_weight_at, rows_at, cell_count_at}
use Rattle.shot_record.proofs.fields.locate.Goals as goal

pub returns : goal.returns
unfolding fields_of threshold_at px_at table_at least_weight_at rows_at cell_count_at
returns c =
    rw (c.grid_size.ensures, c.byte_at-2.ensures, c.byte_at.ensures)
    (rw (c.count_at-cell_count.ensures.value, c.count_at-code_count.ensures.value)
    (rw (c.bit-5.ensures.value, c.bit-4.ensures.value, c.bit-3.ensures.value, c.bit-2.ensures.value, c.bit.ensures.value)
    (rw c.byte_at-map.ensures refl)))
