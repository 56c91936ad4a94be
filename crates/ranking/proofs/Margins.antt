-- The margin is at least 0, and so not NaN, if evidence is small, the runner-up is not above the best and the capacity is finite: the
-- divisor is at least 2⁻²³. Assumes nothing.
use Prim.Native.Nat.{◌^◌}
use native.Mathlib.Nat.{le_trans, add-le-add}
use native.Mathlib.Omega.{arith}
use mathlib.Core.Path.{◌≡◌}
use mathlib.Core.Bool.{Bool, true, false, not, cond}
use lib.Dec.{T, lit≤}
use lib.Ieee.{Float, binary32, of_bits, sub, lt, le, eq, is_nan, fits}
use Rattle.integers.proofs.Parts.{abs_sub}
use Rattle.floats.specs.Units.{units_of, Finite, nought}
use Rattle.floats.proofs.Compare.{lt→Lt, Lt→lt, le→Le, not_lt→le, finite_not_nan}
use Rattle.floats.proofs.Sums.{sub_close}
use Rattle.floats.proofs.Signs.{sub_nonnegative, div_nonnegative}
use Rattle.floats.proofs.Folds.{Item}
use Rattle.ranking.specs.declared.Evidence.{Evidence}
use Rattle.ranking.specs.declared.Evidence.TheVariants as evidence
use Rattle.ranking.specs.Greatest.{lies_below}
use Rattle.ranking.specs.Margin.{epsilon, at_least, share, lead, margin}
use Rattle.std.specs.Prelude.{Option, Some, None}
use Rattle.ranking.specs.declared.Hypothesis.{Hypothesis}

-- ---- the divisor
record Divisor (x : Float) : Type 0 where
  is_finite : Finite x
  above : T (lt nought x)

divisor : (x : Float) → T (fits binary32 x) → Finite x → Divisor (at_least epsilon x)
unfolding of_bits fits is_nan
divisor x fx x₀ = go (lt x epsilon) (not_lt→le x epsilon (finite_not_nan x x₀) tt)
  where
    go : (b : Bool) → (T (not b) → T (le epsilon x)) → Divisor (cond b epsilon x)
    go true f = record { is_finite = tt; above = unfold lt in tt }
    go false f =
        let l = lt→Lt binary32 nought epsilon tt tt tt tt (unfold lt in tt) in
        let m = le→Le binary32 epsilon x tt fx tt x₀ (f tt) in
        record { is_finite = x₀; above = Lt→lt binary32 nought x tt fx tt x₀ (omega (arith, l, m)) }

-- ---- the gap
-- absent, or of size at most 256 × 512
abbrev pub Small : Evidence → Type 0
Small evidence.Absent = Unit {0}
Small (evidence.Number x) = Item binary32 (2 ^ 166) x

-- a runner-up that is small and not above the best
abbrev pub SmallNext : Evidence → Option Hypothesis → Type 0
SmallNext b None = Unit {0}
SmallNext b (Some g) = Small g.evidence × (lies_below b g.evidence ≡ false)

module _ (cap : Float) (d : Divisor (at_least epsilon cap)) where
  share_nonnegative : (x : Float) (y : Evidence) → Item binary32 (2 ^ 166) x → Small y → lies_below (evidence.Number x) y ≡ false → T (le nought (share x cap y))
  share_nonnegative x evidence.Absent h k o = unfold le lt eq in tt
  share_nonnegative x (evidence.Number y) h k o =
      let size = le_trans (abs_sub (units_of x) (units_of y)) (le_trans (add-le-add h.small k.small) (lit≤ tt)) in
      let lead = sub_close binary32 x y 167 h.holds k.holds h.is_finite k.is_finite size (lit≤ tt) in
      let order = not_lt→le x y (finite_not_nan x h.is_finite) (finite_not_nan y k.is_finite) (rw o tt) in
      div_nonnegative (sub binary32 x y) (at_least epsilon cap) lead.is_finite d.is_finite
      (sub_nonnegative binary32 x y 167 h.holds k.holds h.is_finite k.is_finite size (lit≤ tt) order)
      d.above

  lead_nonnegative : (x : Float) (next : Option Hypothesis) → Item binary32 (2 ^ 166) x → SmallNext (evidence.Number x) next → T (le nought (lead x cap next))
  lead_nonnegative x None h k = unfold le lt eq in tt
  lead_nonnegative x (Some g) h k = share_nonnegative x g.evidence h k.0 k.1

  nonnegative : (b : Evidence) (next : Option Hypothesis) → Small b → SmallNext b next → T (le nought (margin b cap next))
  nonnegative evidence.Absent next h k = unfold le lt eq in tt
  nonnegative (evidence.Number x) next h k = go (le x nought) (lead x cap next) (lead_nonnegative x next h k)
    where
      go : (b : Bool) (y : Float) → T (le nought y) → T (le nought (cond b nought y))
      go true y h = unfold le lt eq in tt
      go false y h = h

pub margin_nonnegative : (b : Evidence) (cap : Float) (next : Option Hypothesis) → T (fits binary32 cap) → Finite cap → Small b → SmallNext b next
    → T (le nought (margin b cap next))
margin_nonnegative b cap next f c h k = nonnegative cap (divisor cap f c) b next h k
