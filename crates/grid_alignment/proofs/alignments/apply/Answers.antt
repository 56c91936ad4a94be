-- `grid_alignment::alignments::apply` meets its contract: a turn keeps the bound on the coordinates, so the sums fit.
-- Assumes nothing.
use mathlib.Core.Path.{◌≡◌, refl, ap₂, ◌∙◌}
use Prim.Native.Nat.{◌^◌, ◌≤◌}
use native.Mathlib.Omega.{arith}
use lib.IntN.{ℤ, nat_abs, ◌+ℤ◌}
use mir.Syntax.{w16}
use mir.ValLaws.{to_z-of_z}
use Rattle.integers.proofs.Parts.{fits-small, abs_add}
use Rattle.integers.proofs.Words.{word-is}
use Rattle.grid_alignment.specs.declared.Coord.{Coord}
use Rattle.grid_alignment.specs.Alignment.{point, sends}
use Rattle.integers.proofs.Sums.{Exact, exact_op}
use Rattle.grid_alignment.proofs.Entries.{sends-small}
use Rattle.grid_alignment.proofs.alignments.apply.Goals as goal
use Rattle.grid_alignment.proofs.alignments.apply.Goals.{After-turned-p}

translated : {p : ℤ} (x t : ℤ) → p ≡ x → nat_abs x ≤ 2 ^ 15 → nat_abs t ≤ 2 ^ 30 → Exact ◌+ℤ◌ p t (x +ℤ t)
translated x t e hx ht =
    exact_op ◌+ℤ◌ abs_add x t (word-is x e (omega arith)) (word-is t refl (omega arith)) (omega arith)

module _ (c : After-turned-p) where
  abbrev to : Coord
  to = sends c.args.alignment.turn (point c.args.u c.args.v)

  lands : c.turned-p.result ≡ to
  lands =
      let start = c.before in
      c.turned-p.ensures
      ∙ ap₂ (λ (u v : ℤ). sends c.args.alignment.turn (point u v)) (to_z-of_z w16 c.args.u c.ranges.u)
      (to_z-of_z w16 c.args.v c.ranges.v)

  size : (nat_abs to.u ≤ 2 ^ 15) × (nat_abs to.v ≤ 2 ^ 15)
  size =
      let start = c.before in
      sends-small c.args.alignment.turn (2 ^ 15) (point c.args.u c.args.v)
      (fits-small c.args.u c.ranges.u)
      (fits-small c.args.v c.ranges.v)

  along-u : Exact ◌+ℤ◌ c.turned-p.result.u c.args.alignment.tx (to.u +ℤ c.args.alignment.tx)
  along-u = translated to.u c.args.alignment.tx (λ i. (lands i).u) size.0 c.requires.0

  along-v : Exact ◌+ℤ◌ c.turned-p.result.v c.args.alignment.ty (to.v +ℤ c.args.alignment.ty)
  along-v = translated to.v c.args.alignment.ty (λ i. (lands i).v) size.1 c.requires.1

pub returns : goal.returns
returns c =
    ap₂ point (along-u (goal.at.returns c).After-turned-p).reads (along-v (goal.at.returns c).After-turned-p).reads

pub overflow_add-result : goal.overflow_add-result
overflow_add-result c = (along-u (goal.at.overflow_add-result c).After-turned-p).fits

pub overflow_add-result-2 : goal.overflow_add-result-2
overflow_add-result-2 c = (along-v (goal.at.overflow_add-result-2 c).After-turned-p).fits
