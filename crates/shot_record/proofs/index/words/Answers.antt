-- `shot_record::index::words` meets its contract. Assumes nothing.
use Rattle.std.proofs.Common.{◌≡◌, refl, sym, ◌∙◌, ℕ, zero, suc, ◌+◌, ◌*◌, ◌≤◌, ◌<◌, List, [], ◌∷◌, true, arith}
use Rattle.shot_record.specs.Fields.{byte, number, is_set, cell_count, cell_map, sampled, Point, point_of, sample_place, threshold_from, grid_from}
use Rattle.shot_record.specs.Shots.{whole_record}
use Rattle.shot_record.specs.Index.{point_word, words_from}
use Rattle.shot_record.proofs.Reading.{flag_set}
use Rattle.shot_record.proofs.Whole.{passed}
use Rattle.shot_record.proofs.CellReads.{grid_lies}
use Rattle.shot_record.proofs.index.words.Goals as goal
use Rattle.shot_record.proofs.index.words.Goals.{After-sample_place-place}

with_sample : (bytes : List ℕ) (b at place : ℕ) (p : Point) (word f t : ℕ) → (b ≡ 0 → ⊥) → at ≡ place → word ≡ point_word p → f ≡ number 4 at bytes
    → t ≡ byte (threshold_from at) bytes → word ∷ f ∷ (grid_from at * 256 + t) ∷ [] ≡ words_from p b place bytes
with_sample bytes zero at place p word f t h s x y z = absurd (h refl)
with_sample bytes (suc b) at place p word f t h s x y z = rw (x, y, z, s) refl

-- the grid of a sampled cell starts inside the record
lies : (bytes : List ℕ) (k : ℕ) → whole_record bytes ≡ true → k < cell_count bytes → true ≡ is_set (cell_map bytes) k → grid_from (sample_place bytes k) ≤ 65535
lies bytes k w inside e =
    let p = passed bytes w in
    omega (arith, grid_lies bytes p k inside (flag_set (cell_map bytes) k e refl), p.size)

-- its offset is inside the record
near : (c : After-sample_place-place) → grid_from c.sample_place-place.result ≤ 65535
near c =
    let bytes = c.args.input.now.bytes.now in
    omega (arith, c.sample_place-place.ensures, lies bytes c.args.c.cell c.requires.1 c.requires.0.1 (sym c.if-not-is_sampled.false ∙ c.is_sampled.ensures))

pub overflow_add-grid : goal.overflow_add-grid
overflow_add-grid c = omega (arith, near c)

pub overflow_cast-grid : goal.overflow_cast-grid
overflow_cast-grid c = omega (arith, near c)

pub four_at-requires : goal.four_at-requires
four_at-requires c = omega (arith, near (goal.at.four_at-requires c).After-sample_place-place)

pub overflow_mul-result : goal.overflow_mul-result
overflow_mul-result c = omega (arith, near (goal.at.overflow_mul-result c).After-sample_place-place)

pub overflow_add-place : goal.overflow_add-place
overflow_add-place c = omega (arith, near (goal.at.overflow_add-place c).After-sample_place-place)

pub overflow_add-result : goal.overflow_add-result
overflow_add-result c = omega (arith, near (goal.at.overflow_add-result c).After-sample_place-place)

pub returns : goal.returns
returns c =
    let bytes = c.args.input.now.bytes.now in
    let k = c.args.c.cell in
    with_sample bytes (sampled bytes k) c.sample_place-place.result (sample_place bytes k) (point_of bytes k) c.point-point.result
    c.four_at.result c.byte_at.result (flag_set (cell_map bytes) k c.is_sampled.ensures c.if-not-is_sampled.false) c.sample_place-place.ensures
    c.point-point.ensures c.four_at.ensures c.byte_at.ensures
