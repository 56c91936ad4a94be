-- `marker_sampling::build_marker_cells` meets its contract: the questions in order, then the cells that the walk finds. Assumes nothing.
use mathlib.Core.Path.{◌≡◌, refl, sym, ap, ap₂, ◌∙◌}
use mathlib.Core.Bool.{Bool, true, false, ◌&&◌}
use native.Mathlib.Omega.{arith}
use borrow.Author.Rules.{rules}
use lib.ListN.{length}
use lib.Dec.{leb}
use borrow.Author.Tests.{lt-leb, le-leb}
use Rattle.refusal.specs.declared.Refusal.TheVariants as refusal
use Rattle.marker_sampling.specs.Entry.{corners, corners_answer, cells_of}
use Rattle.marker_sampling.proofs.Searched.{searchable}
use Rattle.marker_sampling.proofs.Answered.{placed-corners, asked, refused, found_all}
use Rattle.marker_sampling.proofs.build_marker_cells.Goals as goal
use Rattle.marker_sampling.proofs.build_marker_cells.Goals.{Else-inliers-gt1024}

pub returns-then-not-corners_in_range : goal.returns-then-not-corners_in_range
returns-then-not-corners_in_range c =
    let e = sym c.corners_in_range.ensures ∙ c.if-not-corners_in_range.true in
    let r = refused _ _ _ _ refusal.CornersOutOfRange
    (asked _ _ _ _ false _ _ (ap (λ (b : Bool). b && leb (length c.args.inliers.now) 1024) e) refl refl) in
    record { answer = r.0; list = r.1 }

pub returns-then-inliers-gt1024 : goal.returns-then-inliers-gt1024
returns-then-inliers-gt1024 c =
    let e = sym c.corners_in_range.ensures ∙ c.if-not-corners_in_range.false in
    let r = refused _ _ _ _ refusal.CornersOutOfRange
    (asked _ _ _ _ false _ _ (ap₂ ◌&&◌ e (lt-leb (length c.args.inliers.now) 1024 c.if-inliers-gt1024.true)) refl refl) in
    record { answer = r.0; list = r.1 }

-- the corners and the inliers are in range
module _ (c : Else-inliers-gt1024) where
  ranged : corners_answer c.args.scores.now c.args.grid.now ≡ true
  ranged = sym c.corners_in_range.ensures ∙ c.if-not-corners_in_range.false

  all_ranged : (corners_answer c.args.scores.now c.args.grid.now && leb (length c.args.inliers.now) 1024) ≡ true
  all_ranged = ap₂ ◌&&◌ ranged (le-leb (length c.args.inliers.now) 1024 c.if-inliers-gt1024.false)

pub returns-then-cells-lt1536 : goal.returns-then-cells-lt1536
returns-then-cells-lt1536 c =
    let r = refused _ _ _ _ refusal.ListTooShort
    (asked _ _ _ _ true false _ (all_ranged (goal.at.returns-then-cells-lt1536 c).Else-inliers-gt1024)
    (lt-leb 1536 (length c.args.cells.now) c.if-cells-lt1536.true) refl) in
    record { answer = r.0; list = r.1 }

pub invariant_of-corners : goal.invariant_of-corners
invariant_of-corners c =
    let p = placed-corners _ _ (ranged (goal.at.invariant_of-corners c).Else-inliers-gt1024) in
    record { few = p.0; placed = p.1 }

pub put_map-requires : goal.put_map-requires
put_map-requires c = (c.if-inliers-gt1024.false, search rules)

pub invariant_of-map : goal.invariant_of-map
invariant_of-map c = record {
  searchable = searchable c.if-inliers-gt1024.false (placed-corners _ _ (ranged (goal.at.invariant_of-map c).Else-inliers-gt1024)).0 c.put_map.ensures;
}

pub returns-then-count-gt256 : goal.returns-then-count-gt256
returns-then-count-gt256 c =
    let found = c.collect-count.ensures (corners c.args.scores.now c.args.grid.now) c.put_map.ensures in
    let r = refused _ _ _ _ refusal.TooManyCells
    (asked _ _ _ _ true true false (all_ranged (goal.at.returns-then-count-gt256 c).Else-inliers-gt1024)
    (le-leb 1536 (length c.args.cells.now) c.if-cells-lt1536.false)
    (lt-leb (length (cells_of c.args.scores.now c.args.grid.now c.args.inliers.now)) 256 (omega (arith, found.count)))) in
    record { answer = r.0; list = r.1 }

pub returns : goal.returns
returns c =
    let found = c.collect-count.ensures (corners c.args.scores.now c.args.grid.now) c.put_map.ensures in
    let r = found_all _ _ _ _ c.collect-count.result
    (asked _ _ _ _ true true true (all_ranged (goal.at.returns c).Else-inliers-gt1024)
    (le-leb 1536 (length c.args.cells.now) c.if-cells-lt1536.false)
    (le-leb (length (cells_of c.args.scores.now c.args.grid.now c.args.inliers.now)) 256 (omega (arith, found.count))))
    c.if-cells-lt1536.false c.if-count-gt256.false refl found c.put.ensures in
    record { answer = r.0; list = r.1 }
