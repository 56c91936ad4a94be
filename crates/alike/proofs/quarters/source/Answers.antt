-- `alike::quarters::source` meets its contract. Assumes nothing.
use mathlib.Core.Path.{◌≡◌, ap, ◌∙◌}
use Prim.Native.Nat.{ℕ, ◌/◌, ◌%◌, ◌<◌}
use native.Mathlib.Nat.{mul-le-mul}
use native.Mathlib.Omega.{arith}
use Rattle.matcher.specs.Codes.{bit_place, index_of, source}
use Rattle.alike.specs.Quarters.{half, quarter_source}
use Rattle.alike.proofs.QuarterTurns.{quarter_source-below}
use Rattle.alike.proofs.quarters.source.Goals as goal
use Rattle.alike.proofs.quarters.source.Goals.{After-source_place-place}

module _ (c : After-source_place-place) where
  is : index_of c.args.bits c.source_place-place.result ≡ quarter_source c.args.bits c.args.k
  unfolding quarter_source
  is =
      ap (index_of c.args.bits) c.source_place-place.ensures
      ∙ ap (λ (x : ℕ). index_of c.args.bits (source c.args.bits (c.args.k / x) (bit_place (half c.args.bits) (c.args.k % x)))) c.quarter-m.ensures

  below : index_of c.args.bits c.source_place-place.result < 64
  below =
      omega (arith, is, quarter_source-below c.args.bits c.requires.0 c.args.k, mul-le-mul {n₂ = 8} {m₂ = 8} c.requires.1 c.requires.1)

pub overflow_mul-result : goal.overflow_mul-result
overflow_mul-result c = omega (arith, below (goal.at.overflow_mul-result c).After-source_place-place)

pub overflow_add-result : goal.overflow_add-result
overflow_add-result c = omega (arith, below (goal.at.overflow_add-result c).After-source_place-place)

pub overflow_cast-result : goal.overflow_cast-result
overflow_cast-result c = omega (arith, below (goal.at.overflow_cast-result c).After-source_place-place)

pub returns : goal.returns
returns c = is (goal.at.returns c).After-source_place-place
