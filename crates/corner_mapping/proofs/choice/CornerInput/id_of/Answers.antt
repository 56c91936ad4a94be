-- `corner_mapping::choice::CornerInput::id_of` meets its contract: the words of the grid point are in range, so casts keep them. Assumes nothing.
use mathlib.Core.Path.{◌≡◌, sym, ap, ap₂, subst, ◌∙◌}
use mathlib.Core.Bool.{true}
use Prim.Native.Nat.{ℕ}
use native.Mathlib.Omega.{arith}
use lib.IntN.{ℤ}
use mir.Syntax.{w16, w32}
use mir.Val.{SFits}
use mir.ValLaws.{to_z-of_z}
use Rattle.integers.specs.Distance.{is_within}
use Rattle.integers.proofs.Words.{half, read_back}
use Rattle.grid_alignment.specs.declared.Coord.{Coord}
use Rattle.grid_alignment.specs.Alignment.{point, applied}
use Rattle.board.specs.Layout.{corner_at}
use Rattle.marker_sampling.specs.Cells.{word, labelled, corners_of}
use Rattle.marker_sampling.specs.Entry.{corners}
use Rattle.marker_sampling.proofs.Placing.{both_within}
use Rattle.corner_mapping.proofs.Ids.{half-fits, no_point, at-point}
use Rattle.corner_mapping.proofs.choice.CornerInput.id_of.Goals as goal
use Rattle.corner_mapping.proofs.choice.CornerInput.id_of.Goals.{Else-not-labelled}

pub returns-then-not-labelled : goal.returns-then-not-labelled
returns-then-not-labelled c = no_point _ _ _ c.args.k (sym c.labelled.ensures ∙ c.if-not-labelled.true)

-- the corner has a grid point, in range
module _ (c : Else-not-labelled) where
  has-point : labelled (corners_of 0 c.args.self.grid.now) c.args.k ≡ true
  has-point = sym c.labelled.ensures ∙ c.if-not-labelled.false

  abbrev coordinate : ℕ → ℤ
  coordinate w = word (corners_of 0 c.args.self.grid.now) c.args.k w

  near : (is_within 4096 (coordinate 1) ≡ true) × (is_within 4096 (coordinate 2) ≡ true)
  near = both_within 4096 (corners c.args.self.scores.now c.args.self.grid.now) _ c.args.k c.requires c.args.self.in_range.all_placed has-point

  u-fits : SFits w16 (coordinate 1)
  u-fits = half-fits (coordinate 1) near.0

  v-fits : SFits w16 (coordinate 2)
  v-fits = half-fits (coordinate 2) near.1

pub overflow_cast-u : goal.overflow_cast-u
overflow_cast-u c =
    subst (SFits w16) (sym (read_back c.word-u.result c.word-u.type_inv ∙ c.word-u.ensures)) (u-fits (goal.at.overflow_cast-u c).Else-not-labelled)

pub overflow_cast-v : goal.overflow_cast-v
overflow_cast-v c =
    subst (SFits w16) (sym (read_back c.word-v.result c.word-v.type_inv ∙ c.word-v.ensures)) (v-fits (goal.at.overflow_cast-v c).Else-not-labelled)

pub returns : goal.returns
returns c =
    let x = c.args.self in
    let p = c.apply-corner.result in
    let at = (goal.at.returns c).Else-not-labelled in
    let there : p ≡ applied x.alignment (point (coordinate at 1) (coordinate at 2)) =
    c.apply-corner.ensures
    ∙ ap₂ (λ (u v : ℤ). applied x.alignment (point u v))
    (ap half (read_back c.word-u.result c.word-u.type_inv ∙ c.word-u.ensures) ∙ to_z-of_z w16 (coordinate at 1) (u-fits at))
    (ap half (read_back c.word-v.result c.word-v.type_inv ∙ c.word-v.ensures) ∙ to_z-of_z w16 (coordinate at 2) (v-fits at)) in
    c.charuco_corner_id_from_board_corner.ensures
    ∙ ap₂ (corner_at x.board.rows x.board.cols)
    (to_z-of_z w32 p.u (record { sfits = omega arith }) ∙ ap (λ (r : Coord). r.u) there)
    (to_z-of_z w32 p.v (record { sfits = omega arith }) ∙ ap (λ (r : Coord). r.v) there)
    ∙ at-point _ _ _ c.args.k (has-point at)
