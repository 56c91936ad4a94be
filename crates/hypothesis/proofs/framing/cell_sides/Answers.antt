-- `hypothesis::framing::cell_sides` meets its contract. The loop's invariant: u and v are the extremes of the cells 0 to k. Assumes nothing.
use mathlib.Core.Path.{◌≡◌, ap, ◌∙◌}
use Prim.Native.Nat.{ℕ, ◌-◌, ◌^◌, ◌<◌}
use native.Mathlib.Omega.{arith}
use lib.IntN.{ℤ}
use lib.Signed.{mag}
use mir.Syntax.{w16}
use mir.ValLaws.{to_z-of_z}
use Rattle.integers.proofs.Words.{half}
use Rattle.shot_record.specs.Index.{u_in, v_in}
use Rattle.hypothesis.specs.Extremes.{extremes_to}
use Rattle.hypothesis.proofs.Sides.{first_extremes, next_extremes}
use Rattle.hypothesis.proofs.framing.cell_sides.Goals as goal
use Rattle.hypothesis.proofs.framing.cell_sides.Goals.{In-loop-k}

-- a looked_up coordinate is the cell's
looked_up : (z x : ℤ) → mag z < 2 ^ 15 → z ≡ x → half z ≡ x
looked_up z x h e = to_z-of_z w16 z (record { sfits = h }) ∙ e

pub loop-k-init : goal.loop-k-init
loop-k-init c =
    let f = u_in c.args.index.now in
    let g = v_in c.args.index.now in
    let u = c.u-first_u in
    let v = c.v-first_v in (
      first_extremes f (half u.result) (looked_up u.result _ u.type_inv u.ensures),
      first_extremes g (half v.result) (looked_up v.result _ v.type_inv v.ensures),
    )

pub loop-k-preserved : goal.loop-k-preserved
loop-k-preserved c =
    let f = u_in c.args.index.now in
    let g = v_in c.args.index.now in
    let i = c.loop-k.invariant in
    let u = c.u in
    let v = c.v in (
      c.extremes_with-u.ensures ∙ next_extremes f c.loop-k.k _ _ c.loop-k.auto.k i.0 (looked_up u.result _ u.type_inv u.ensures),
      c.extremes_with-v.ensures ∙ next_extremes g c.loop-k.k _ _ c.loop-k.auto.k i.1 (looked_up v.result _ v.type_inv v.ensures),
    )

pub returns : goal.returns
returns c =
    let l = c.loop-k in
    let last : l.k ≡ c.args.cells = omega (arith, c.loop-k-test.false, c.requires.0) in
    λ i. record {
      u = (l.invariant.0 ∙ ap (λ (n : ℕ). extremes_to (u_in c.args.index.now) (n - 1)) last) i;
      v = (l.invariant.1 ∙ ap (λ (n : ℕ). extremes_to (v_in c.args.index.now) (n - 1)) last) i;
    }
