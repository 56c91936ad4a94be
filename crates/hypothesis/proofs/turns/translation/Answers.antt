-- `hypothesis::turns::translation` meets its contract: the difference is small. Assumes nothing.
use mathlib.Core.Path.{◌≡◌, sym, ap₂, subst}
use Prim.Native.Nat.{◌^◌, ◌<◌}
use native.Mathlib.Omega.{arith}
use lib.IntN.{pos, nat_abs, ◌-ℤ◌}
use mir.Syntax.{w32}
use mir.Val.{SFits, to_z}
use mir.ValLaws.{to_z-of_z}
use Rattle.integers.proofs.Parts.{small-fits, abs_sub}
use Rattle.integers.proofs.Words.{word, word-is}
use Rattle.hypothesis.proofs.turns.translation.Goals as goal
use Rattle.hypothesis.proofs.turns.translation.Goals.{Start}

module _ (c : Start) where
  difference : to_z w32 c.args.a -ℤ word c.args.least ≡ pos c.args.a -ℤ c.args.least
  difference =
      ap₂ ◌-ℤ◌ (to_z-of_z w32 (pos c.args.a) (small-fits (pos c.args.a) (omega (arith, c.requires.0))))
      (to_z-of_z w32 c.args.least (small-fits c.args.least (omega (arith, c.requires.1))))

  small : nat_abs (pos c.args.a -ℤ c.args.least) < 2 ^ 31
  small = omega (arith, c.requires.0, c.requires.1, abs_sub (pos c.args.a) c.args.least)

pub overflow_sub-result : goal.overflow_sub-result
overflow_sub-result c = subst (SFits w32) (sym (difference c)) (small-fits (pos c.args.a -ℤ c.args.least) (small c))

pub returns : goal.returns
returns c = word-is (pos c.args.a -ℤ c.args.least) (difference c) (small c)
