-- `shot_record::cells::Record::is_whole` meets its contract. Assumes nothing.
use Rattle.std.proofs.Common.{◌≡◌, ap, ap₂, sym, ◌∙◌, ℕ, ◌^◌, ◌<◌, ◌≤◌, Bool, true, false, length, leb, ltb, eqb, arith}
use Prim.Native.Nat.{zero-le}
use borrow.Author.Tests.{le-leb, lt-leb, lt-ltb, le-ltb, ne_eqb}
use Rattle.shot_record.specs.declared.record.Record.{Record}
use Rattle.shot_record.specs.declared.cells.Cursor.{Cursor}
use Rattle.shot_record.specs.Fields.{map_byte, cell_count, cell_map, map_of, cell_at}
use Rattle.shot_record.specs.Shots.{whole_record}
use Rattle.shot_record.proofs.Reading.{map_reach, count_reach, starts_rise}
use Rattle.shot_record.proofs.Records.{found_in}
use Rattle.shot_record.proofs.record.Record.is_whole.Goals as goal

-- each check, passed and not
module _ (r : Record) where
  short : length r.bytes.now ≤ 65535 → leb (length r.bytes.now) 65535 ≡ true
  short h = le-leb (length r.bytes.now) 65535 h

  known : r.fields.map ≤ 63 → ltb (map_byte r.bytes.now) 64 ≡ true
  known h = lt-ltb (map_byte r.bytes.now) 64 (omega (arith, (found_in r).map))

  unknown : 63 < r.fields.map → ltb (map_byte r.bytes.now) 64 ≡ false
  unknown h = le-ltb (map_byte r.bytes.now) 64 (omega (arith, (found_in r).map))

  -- the unused bits of the cell map
  map_is : (b answer : Bool) → answer ≡ ltb (map_of r.fields.cell_count r.fields.cell_map_at r.bytes.now) (2 ^ r.fields.cell_count) → answer ≡ b
      → ltb (cell_map r.bytes.now) (2 ^ cell_count r.bytes.now) ≡ b
  unfolding cell_map
  map_is b answer e h =
      let f = found_in r in
      sym (e ∙ ap₂ (λ (n at : ℕ). ltb (map_of n at r.bytes.now) (2 ^ n)) f.cell_count_is f.cell_map_at_is) ∙ h

  -- a record that ends before its cells
  cut : length r.bytes.now < r.fields.cells_at → eqb (cell_at r.bytes.now (cell_count r.bytes.now)) (length r.bytes.now) ≡ false
  unfolding cell_at
  cut h =
      let bytes = r.bytes.now in
      ne_eqb (cell_at bytes (cell_count bytes)) (length bytes)
      (λ e. absurd (omega (arith, h, e, (found_in r).cells_at, starts_rise bytes 0 (cell_count bytes) zero-le)))

pub is_clear-requires : goal.is_clear-requires
is_clear-requires c =
    let r = c.args.self.now in
    let f = found_in r in
    let map = map_reach r.bytes.now r.small in
    let count = count_reach r.bytes.now r.small in
    (omega arith, omega arith)

pub returns-then-self-gt65535 : goal.returns-then-self-gt65535
unfolding whole_record
returns-then-self-gt65535 c = rw (lt-leb (length c.args.self.now.bytes.now) 65535 c.if-self-gt65535.true)

pub returns-then-f-gt63 : goal.returns-then-f-gt63
unfolding whole_record
returns-then-f-gt63 c =
    let r = c.args.self.now in
    rw (short r c.if-self-gt65535.false, unknown r c.if-f-gt63.true)

pub returns-then-not-is_clear : goal.returns-then-not-is_clear
unfolding whole_record
returns-then-not-is_clear c =
    let r = c.args.self.now in
    rw (short r c.if-self-gt65535.false, known r c.if-f-gt63.false, map_is r false _ c.is_clear.ensures c.if-not-is_clear.true)

pub returns-then-self-f : goal.returns-then-self-f
unfolding whole_record
returns-then-self-f c =
    let r = c.args.self.now in
    rw (short r c.if-self-gt65535.false, known r c.if-f-gt63.false, map_is r true _ c.is_clear.ensures c.if-not-is_clear.false, cut r c.if-self-f.true)

pub returns : goal.returns
unfolding whole_record
returns c =
    let r = c.args.self.now in
    let bytes = r.bytes.now in
    let end : c.seek.result.start ≡ cell_at bytes (cell_count bytes)
    = ap (λ (d : Cursor). d.start) c.seek.ensures ∙ ap (cell_at bytes) (found_in r).cell_count_is in
    rw (short r c.if-self-gt65535.false, known r c.if-f-gt63.false, map_is r true _ c.is_clear.ensures c.if-not-is_clear.false)
    (ap (λ (n : ℕ). eqb n (length bytes)) end)
