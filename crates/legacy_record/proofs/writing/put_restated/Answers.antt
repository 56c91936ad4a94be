-- `legacy_record::writing::put_restated` meets its contract: the sections are written one after the other. Assumes nothing.
use Rattle.std.proofs.Common.{◌≡◌, ap, ◌∙◌, ℕ, ◌+◌, ◌*◌, ◌≤◌, [], ◌∷◌, length, arith}
use Rattle.lent_list.specs.Front.{Put}
use Rattle.lent_list.proofs.Front.{put_as}
use Rattle.shot_record.specs.Fields.{codes_at}
use Rattle.shot_record.proofs.Whole.{passed}
use Rattle.legacy_record.specs.Restating.{without_flag}
use Rattle.legacy_record.proofs.Written as written
use Rattle.legacy_record.proofs.writing.put_restated.Goals as goal
use Rattle.legacy_record.proofs.writing.put_restated.Goals.{After-put-next, After-put-next-2, After-put_codes-next, After-reversed_on-n}

-- ---- the record, and the number of codes
module _ (c : After-reversed_on-n) where
  at : c.args.input.now.fields.rows_at + 14 ≡ codes_at c.args.input.now.bytes.now
  at = written.codes_at_lem c.args.input.now c.args.board c.args.codes.now c.requires.0

  reach : codes_at c.args.input.now.bytes.now + 8 * c.reversed_on-n.result ≤ length c.args.input.now.bytes.now
  reach = written.reach c.args.input.now c.args.board c.args.codes.now c.requires.0 c.reversed_on-n.result c.reversed_on-n.ensures

-- ---- after the map byte
module _ (c : After-put-next) where
  map_put : Put c.args.sheet.now c.put-next.new.list 0 c.put-next.result (without_flag c.args.input.now.fields.map ∷ [])
  map_put = put_as (ap (λ (x : ℕ). x ∷ []) c.without_flag.ensures) c.put-next.ensures

  one : c.put-next.result ≡ 1
  one =
      written.first-place c.args.input.now c.args.board c.args.codes.now c.requires.0 c.reversed_on-n.result c.reversed_on-n.ensures c.requires.1 map_put

  long : length c.put-next.new.list ≡ length c.args.sheet.now
  long =
      written.first-long c.args.input.now c.args.board c.args.codes.now c.requires.0 c.reversed_on-n.result c.reversed_on-n.ensures c.requires.1 map_put

-- ---- after the bytes up to the codes
module _ (c : After-put-next-2) where
  abbrev first : After-put-next
  first = (goal.at.After-put-next-2 c).After-put-next

  two : c.put-next-2.result ≡ codes_at c.args.input.now.bytes.now
  two =
      written.second-place c.args.input.now c.args.board c.args.codes.now c.requires.0 c.reversed_on-n.result c.reversed_on-n.ensures c.requires.1
      (map_put first) c.put-next-2.ensures

  long_2 : length c.put-next-2.new.list ≡ length c.args.sheet.now
  long_2 =
      written.second-long c.args.input.now c.args.board c.args.codes.now c.requires.0 c.reversed_on-n.result c.reversed_on-n.ensures c.requires.1
      (map_put first) c.put-next-2.ensures
      ∙ long first

-- ---- after the codes
module _ (c : After-put_codes-next) where
  abbrev second : After-put-next-2
  second = (goal.at.After-put_codes-next c).After-put-next-2

  three : c.put_codes-next.result ≡ codes_at c.args.input.now.bytes.now + 8 * c.reversed_on-n.result
  three =
      written.third_place c.args.input.now c.args.board c.args.codes.now c.requires.0 c.reversed_on-n.result c.reversed_on-n.ensures c.requires.1
      (map_put (first second)) c.put-next-2.ensures c.put_codes-next.ensures

  inside : c.put_codes-next.result ≤ length c.args.input.now.bytes.now
  inside =
      omega (arith, three, written.reach c.args.input.now c.args.board c.args.codes.now c.requires.0 c.reversed_on-n.result c.reversed_on-n.ensures)

pub overflow_add-codes_at : goal.overflow_add-codes_at
overflow_add-codes_at c =
    let n = (goal.at.overflow_add-codes_at c).After-reversed_on-n in
    omega (arith, at n, reach n, (passed c.args.input.now.bytes.now c.requires.0.whole).size)

pub put-next-requires : goal.put-next-requires
put-next-requires c =
    let n = (goal.at.put-next-requires c).After-reversed_on-n in
    omega (arith, at n, reach n)

pub slice_bounds-put-end-2 : goal.slice_bounds-put-end-2
slice_bounds-put-end-2 c =
    let n = (goal.at.slice_bounds-put-end-2 c).After-reversed_on-n in
    omega (arith, at n, reach n)

pub put_codes-next-requires : goal.put_codes-next-requires
put_codes-next-requires c =
    let r = c.args.input.now in
    let n = (goal.at.put_codes-next-requires c).After-reversed_on-n in
    let s = (goal.at.put_codes-next-requires c).After-put-next-2 in (
      written.count-few r c.args.board c.args.codes.now c.requires.0 c.reversed_on-n.result c.reversed_on-n.ensures,
      written.bits-few r c.args.board c.args.codes.now c.requires.0,
      omega (arith, two s, long_2 s, reach n),
    )

pub slice_bounds-put-count-2 : goal.slice_bounds-put-count-2
slice_bounds-put-count-2 c = inside (goal.at.slice_bounds-put-count-2 c).After-put_codes-next

pub slice_bounds-put-start-2 : goal.slice_bounds-put-start-2
slice_bounds-put-start-2 c = inside (goal.at.slice_bounds-put-start-2 c).After-put_codes-next

pub returns : goal.returns
returns c =
    let s = second (goal.at.returns c).After-put_codes-next in
    written.all_put c.args.input.now c.args.board c.args.codes.now c.requires.0 c.reversed_on-n.result c.reversed_on-n.ensures c.requires.1
    (map_put (first s)) c.put-next-2.ensures c.put_codes-next.ensures c.put.ensures
