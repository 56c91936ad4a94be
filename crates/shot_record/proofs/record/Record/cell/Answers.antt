-- `shot_record::cells::Record::cell` meets its contract. Assumes nothing.
use Rattle.std.proofs.Common.{◌≡◌, refl, ap, ◌∙◌, ℕ, zero, suc, ◌/◌, ◌%◌, List, arith}
use lib.IntN.{ℤ}
use lib.Ieee.{Float}
use mir.Syntax.{w16}
use mir.Val.{to_z, of_z}
use mir.ValLaws.{to_z-of_z}
use Rattle.std.specs.Prelude.{Option, Some, None}
use Rattle.shot_record.specs.declared.ReadCell.{ReadCell}
use Rattle.shot_record.specs.declared.ReadSample.{ReadSample}
use Rattle.shot_record.specs.Fields.{byte, number, Point, point_of, cell_map, sampled, sample_place, bits_of, border_of, grid_size, threshold_from}
use Rattle.shot_record.specs.Shots.{sample_at, cell_from}
use Rattle.shot_record.specs.Answers.{of_pattern, cell_with}
use Rattle.shot_record.proofs.Reading.{flag_set, flag_clear}
use Rattle.shot_record.proofs.Walks.{walk_start, walk_reach}
use Rattle.shot_record.proofs.Entries.{point-small, low_word, high_word}
use Rattle.shot_record.proofs.record.Record.cell.Goals as goal
use Rattle.shot_record.proofs.record.Record.cell.Goals.{After-coordinate-v}

-- ---- a cell by its parts
abbrev cell_by : ℤ → ℤ → Option ReadSample → ReadCell
cell_by u v sample = record { u = u; v = v; sample = sample }

abbrev sample_by : Float → ℕ → Option ReadSample
sample_by fraction threshold = Some (record { fraction = fraction; threshold = threshold })

module _ (p : Point) (bytes : List ℕ) (place : ℕ) where
  without : (b grid : ℕ) → b ≡ 0 → cell_by (to_z w16 p.u) (to_z w16 p.v) None ≡ cell_with (cell_from p (sample_at b grid place bytes))
  without b grid e = rw e refl

  with_sample : (b grid : ℕ) → (b ≡ 0 → ⊥)
      → cell_by (to_z w16 p.u) (to_z w16 p.v) (sample_by (of_pattern (number 4 place bytes)) (byte (threshold_from place) bytes))
      ≡ cell_with (cell_from p (sample_at b grid place bytes))
  with_sample zero grid h = absurd (h refl)
  with_sample (suc b) grid h = refl

unsampled-alike : {u u' v v' : ℤ} → u ≡ u' → v ≡ v' → cell_by u v None ≡ cell_by u' v' None
unsampled-alike p q = cc

sampled-alike : {u u' v v' : ℤ} {x x' : Float} {t t' : ℕ} → u ≡ u' → v ≡ v' → x ≡ x' → t ≡ t' → cell_by u v (sample_by x t) ≡ cell_by u' v' (sample_by x' t')
sampled-alike p q r s = cc

-- ---- what was read
abbrev here : After-coordinate-v → Point
here c = point_of c.args.self.now.bytes.now c.args.c.cell

read_u : (c : After-coordinate-v) → to_z w16 (of_z w16 c.coordinate-u.result) ≡ to_z w16 (here c).u
read_u c =
    to_z-of_z w16 c.coordinate-u.result (record { sfits = c.coordinate-u.type_inv }) ∙ c.coordinate-u.ensures
    ∙ ap (to_z w16) (ap (λ (n : ℕ). n % 65536) c.point-point.ensures ∙ low_word (here c) (point-small c.args.self.now.bytes.now c.args.self.now.small c.args.c.cell))

read_v : (c : After-coordinate-v) → to_z w16 (of_z w16 c.coordinate-v.result) ≡ to_z w16 (here c).v
read_v c =
    to_z-of_z w16 c.coordinate-v.result (record { sfits = c.coordinate-v.type_inv }) ∙ c.coordinate-v.ensures
    ∙ ap (to_z w16) (ap (λ (n : ℕ). n / 65536) c.point-point.ensures ∙ high_word (here c) (point-small c.args.self.now.bytes.now c.args.self.now.small c.args.c.cell))

abbrev size : List ℕ → ℕ
size bytes = grid_size (bits_of bytes) (border_of bytes)

pub returns-then-not-is_sampled : goal.returns-then-not-is_sampled
returns-then-not-is_sampled c =
    let s = (goal.at.returns-then-not-is_sampled c).After-coordinate-v in
    let bytes = c.args.self.now.bytes.now in
    let k = c.args.c.cell in
    unsampled-alike (read_u s) (read_v s)
    ∙ without (here s) bytes (sample_place bytes k) (sampled bytes k) (size bytes) (flag_clear (cell_map bytes) k c.is_sampled.ensures c.if-not-is_sampled.true)

pub float_at-requires : goal.float_at-requires
float_at-requires c =
    let r = c.args.self.now in
    omega (arith, c.sample_place-place.ensures, walk_reach r c.args.c c.requires, walk_start r c.args.c c.requires)

pub overflow_add-place : goal.overflow_add-place
overflow_add-place c =
    let r = c.args.self.now in
    omega (arith, c.sample_place-place.ensures, walk_reach r c.args.c c.requires, walk_start r c.args.c c.requires)

pub returns : goal.returns
returns c =
    let s = (goal.at.returns c).After-coordinate-v in
    let bytes = c.args.self.now.bytes.now in
    let k = c.args.c.cell in
    let fraction = c.float_at.ensures ∙ ap (λ (at : ℕ). of_pattern (number 4 at bytes)) c.sample_place-place.ensures in
    let threshold = c.byte_at.ensures ∙ ap (λ (at : ℕ). byte (threshold_from at) bytes) c.sample_place-place.ensures in
    sampled-alike (read_u s) (read_v s) fraction threshold
    ∙ with_sample (here s) bytes (sample_place bytes k) (sampled bytes k) (size bytes)
    (flag_set (cell_map bytes) k c.is_sampled.ensures c.if-not-is_sampled.false)
