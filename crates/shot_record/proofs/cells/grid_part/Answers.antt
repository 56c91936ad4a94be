-- `shot_record::cells::grid_part` meets its contract. Assumes nothing.
use Rattle.std.proofs.Common.{◌≡◌, refl, ap, ap₂, ◌∙◌, ℕ, ◌+◌, ◌-◌, ◌≤◌, ◌<◌, ◌*◌, List, true, take, drop, arith}
use Rattle.shot_record.specs.declared.cells.Part.{Part}
use Rattle.shot_record.specs.declared.cells.Cursor.{Cursor}
use Rattle.shot_record.specs.Fields.{bits_of, border_of, grid_size, cell_count, cell_map, sampled, sample_place, grid_from}
use Rattle.shot_record.specs.Shots.{cell_of, whole_record}
use Rattle.shot_record.proofs.Lists.{get_elem?_list, get_elem?_list_past}
use Rattle.shot_record.proofs.Reading.{flag_set, flag_clear, start_reach, count_reach, grid_reach}
use Rattle.shot_record.proofs.Records.{found_in}
use Rattle.shot_record.proofs.Walks.{at-cell}
use Rattle.shot_record.proofs.CellReads.{without-grid, with_grid, without-part, with_part, grid_lies}
use Rattle.shot_record.proofs.Whole.{refused, passed, read_as}
use Rattle.shot_record.proofs.cells.grid_part.Goals as goal
use Rattle.shot_record.proofs.cells.grid_part.Goals.{After-sample_place-first}

abbrev part : ℕ → ℕ → Part
part at size = record { first = grid_from at; end = grid_from at + size }

abbrev size : List ℕ → ℕ
size bytes = grid_size (bits_of bytes) (border_of bytes)

pub returns-in_default-clause-holds : goal.returns-in_default-clause-holds
returns-in_default-clause-holds c = rw (refused _ c.in_default.ensures.refused.1) refl

pub returns-in_default-clause-place : goal.returns-in_default-clause-place
returns-in_default-clause-place c = rw (refused _ c.in_default.ensures.refused.1) refl

pub returns-then-record-k-clause-holds : goal.returns-then-record-k-clause-holds
returns-then-record-k-clause-holds c =
    let bytes = c.in-Ok.record.bytes.now in
    let h = c.in-Ok.ensures.whole in
    let f = found_in c.in-Ok.record in
    let past : cell_count bytes ≤ c.args.k = omega arith in
    rw (read_as _ _ h.0 h.1, get_elem?_list_past (cell_of bytes) (cell_count bytes) c.args.k past) refl

pub returns-then-record-k-clause-place : goal.returns-then-record-k-clause-place
returns-then-record-k-clause-place c =
    let bytes = c.in-Ok.record.bytes.now in
    let h = c.in-Ok.ensures.whole in
    let f = found_in c.in-Ok.record in
    let past : cell_count bytes ≤ c.args.k = omega arith in
    rw (read_as _ _ h.0 h.1, get_elem?_list_past (cell_of bytes) (cell_count bytes) c.args.k past) refl

pub is_sampled-requires : goal.is_sampled-requires
is_sampled-requires c = omega (arith, (found_in c.in-Ok.record).cell_count_is)

pub returns-then-not-is_sampled-clause-holds : goal.returns-then-not-is_sampled-clause-holds
returns-then-not-is_sampled-clause-holds c =
    let bytes = c.in-Ok.record.bytes.now in
    let k = c.args.k in
    let h = c.in-Ok.ensures.whole in
    let f = found_in c.in-Ok.record in
    let inside : k < cell_count bytes = omega arith in
    rw (read_as _ _ h.0 h.1, get_elem?_list (cell_of bytes) (cell_count bytes) k inside)
    (without-grid (sampled bytes k) (size bytes) (sample_place bytes k) bytes (flag_clear (cell_map bytes) k c.is_sampled.ensures c.if-not-is_sampled.true))

pub returns-then-not-is_sampled-clause-place : goal.returns-then-not-is_sampled-clause-place
returns-then-not-is_sampled-clause-place c =
    let bytes = c.in-Ok.record.bytes.now in
    let k = c.args.k in
    let h = c.in-Ok.ensures.whole in
    let f = found_in c.in-Ok.record in
    let inside : k < cell_count bytes = omega arith in
    rw (read_as _ _ h.0 h.1, ← h.0, get_elem?_list (cell_of bytes) (cell_count bytes) k inside)
    (without-part (sampled bytes k) (size bytes) (sample_place bytes k) bytes (flag_clear (cell_map bytes) k c.is_sampled.ensures c.if-not-is_sampled.true))

pub sample_place-first-requires : goal.sample_place-first-requires
sample_place-first-requires c = at-cell c.in-Ok.record c.seek.result c.args.k c.seek.ensures c.if-record-k.false

-- the offset of the sample, and its bound
place : (c : After-sample_place-first) → c.sample_place-first.result ≡ sample_place c.in-Ok.record.bytes.now c.args.k
place c = c.sample_place-first.ensures ∙ ap (λ (w : Cursor). sample_place c.in-Ok.record.bytes.now w.cell) c.seek.ensures

reach : (c : After-sample_place-first) → c.sample_place-first.result + c.in-Ok.record.fields.grid_size ≤ 65536 * 600000
reach c =
    let r = c.in-Ok.record in
    let f = found_in r in
    let first = place c in
    omega (arith, start_reach r.bytes.now r.small c.args.k, count_reach r.bytes.now r.small, grid_reach r.bytes.now r.small)

pub overflow_add-first : goal.overflow_add-first
overflow_add-first c = omega (arith, reach c)

pub overflow_add-result : goal.overflow_add-result
overflow_add-result c = omega (arith, reach (goal.at.overflow_add-result c).After-sample_place-first)

pub returns : goal.returns
returns c =
    let bytes = c.in-Ok.record.bytes.now in
    let k = c.args.k in
    let h = c.in-Ok.ensures.whole in
    let f = found_in c.in-Ok.record in
    let first = place c in
    let whole : whole_record bytes ≡ true = ap whole_record h.0 ∙ h.1 in
    let inside : k < cell_count bytes = omega arith in
    let marked : sampled bytes k ≡ 0 → ⊥ = flag_set (cell_map bytes) k c.is_sampled.ensures c.if-not-is_sampled.false in
    let lies = grid_lies bytes (passed bytes whole) k inside marked in
    let length : c.sample_place-first.result + 5 + c.in-Ok.record.fields.grid_size - (c.sample_place-first.result + 5) ≡ size bytes
    = omega (arith, f.grid_size_is) in
    rw (read_as _ _ h.0 h.1, ← h.0, get_elem?_list (cell_of bytes) (cell_count bytes) k inside)
    (record {
      lies = (omega arith, omega arith);
      holds = ap₂ (λ (n at : ℕ). take n (drop (grid_from at) bytes)) length first ∙ with_grid (sampled bytes k) (size bytes) (sample_place bytes k) bytes marked;
      place = ap₂ part first f.grid_size_is ∙ with_part (sampled bytes k) (size bytes) (sample_place bytes k) bytes marked;
    })
