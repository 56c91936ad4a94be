-- `hypothesis::capacity::with_cell` meets its contract. Assumes nothing.
use mathlib.Core.Path.{◌≡◌, ap, ap₂, ◌∙◌}
use lib.IntN.{ℤ}
use native.Mathlib.Omega.{arith}
use mir.Syntax.{w16, w32}
use mir.ValLaws.{to_z-of_z}
use Rattle.grid_alignment.specs.declared.Coord.{Coord}
use Rattle.grid_alignment.specs.Alignment.{point, applied}
use Rattle.board.specs.Layout.{marker_on}
use Rattle.score_matrix.specs.Weights.{weight}
use Rattle.shot_record.specs.Index.{u_in, v_in}
use Rattle.hypothesis.specs.Capacity.{with_marker}
use Rattle.hypothesis.proofs.capacity.with_cell.Goals as goal
use Rattle.hypothesis.proofs.capacity.with_cell.Goals.{After-apply-square}

module _ (c : After-apply-square) where
  square : let x = c.args in c.apply-square.result ≡ applied x.alignment (point (u_in x.index.now x.k) (v_in x.index.now x.k))
  square =
      let u = c.u in
      let v = c.v in
      c.apply-square.ensures
      ∙ ap₂ (λ (x y : ℤ). applied c.args.alignment (point x y)) (to_z-of_z w16 u.result (record { sfits = u.type_inv }) ∙ u.ensures)
      (to_z-of_z w16 v.result (record { sfits = v.type_inv }) ∙ v.ensures)

pub returns : goal.returns
returns c =
    let x = c.args in
    let r = c.apply-square.result in
    let u = to_z-of_z w32 r.u (record { sfits = omega arith }) ∙ ap (λ (q : Coord). q.u) (square (goal.at.returns c).After-apply-square) in
    let v = to_z-of_z w32 r.v (record { sfits = omega arith }) ∙ ap (λ (q : Coord). q.v) (square (goal.at.returns c).After-apply-square) in
    c.with_marker.ensures
    ∙ ap₂ (with_marker x.total x.most) (c.cell_weight-weight.ensures ∙ ap (weight x.inputs.config) c.border.ensures)
    (c.marker_id_at.ensures ∙ ap₂ (marker_on x.inputs.board) u v)
