-- `integers::combine` meets its contract: the factors keep |a x|, |b y| ≤ 2¹⁵, so no word overflows. Assumes nothing.
use mathlib.Core.Path.{◌≡◌, ap₂, ◌∙◌}
use Prim.Native.Nat.{◌^◌, ◌≤◌}
use native.Mathlib.Omega.{arith}
use lib.IntN.{ℤ, nat_abs, ◌+ℤ◌, ◌*ℤ◌}
use mir.Syntax.{w16, w32}
use mir.Val.{SFits}
use mir.ValLaws.{to_z-of_z}
use Rattle.integers.proofs.Parts.{fits-small, abs_add, abs_factor}
use Rattle.integers.proofs.Words.{word, half, word-is}
use Rattle.integers.proofs.Sums.{Exact, exact, exact_op}
use Rattle.integers.proofs.combine.Goals as goal
use Rattle.integers.proofs.combine.Goals.{After-from-2}

-- the product of a factor and a number that was widened
module _ (a x : ℤ) (h : nat_abs a ≤ 1) (fx : SFits w16 x) where
  size : nat_abs (a *ℤ x) ≤ 2 ^ 15
  size = omega (arith, abs_factor a x h, fits-small x fx)

  product : SFits w32 a → {q : ℤ} → q ≡ half x → Exact ◌*ℤ◌ a q (a *ℤ x)
  product fa e =
      exact (ap₂ ◌*ℤ◌ (to_z-of_z w32 a fa) (word-is x (e ∙ to_z-of_z w16 x fx) (omega (arith, fits-small x fx)))) (omega (arith, size))

module _ (c : After-from-2) where
  first : Exact ◌*ℤ◌ c.args.a c.from.result (c.args.a *ℤ c.args.x)
  first = product c.args.a c.args.x (omega (arith, c.requires.0)) c.ranges.x c.ranges.a c.from.ensures

  second : Exact ◌*ℤ◌ c.args.b c.from-2.result (c.args.b *ℤ c.args.y)
  second = product c.args.b c.args.y (omega (arith, c.requires.1)) c.ranges.y c.ranges.b c.from-2.ensures

  sum : Exact ◌+ℤ◌ (word c.args.a *ℤ word c.from.result) (word c.args.b *ℤ word c.from-2.result) (c.args.a *ℤ c.args.x +ℤ c.args.b *ℤ c.args.y)
  sum =
      exact_op ◌+ℤ◌ abs_add (c.args.a *ℤ c.args.x) (c.args.b *ℤ c.args.y) first.reads second.reads
      (omega (arith, size c.args.a c.args.x c.requires.0 c.ranges.x, size c.args.b c.args.y c.requires.1 c.ranges.y))

pub overflow_add-result : goal.overflow_add-result
overflow_add-result c = (sum c).fits

pub returns : goal.returns
returns c = (sum c).reads
