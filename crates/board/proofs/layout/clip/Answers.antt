-- `board::layout::clip` meets its contract: a number that is no `u32` is off the board. Assumes nothing.
use mathlib.Core.Path.{◌≡◌, ap, ◌∙◌}
use Prim.Native.Nat.{ℕ, min}
use native.Mathlib.Omega.{arith}
use lib.Dec.{ltb}
use lib.IntN.{ℤ, pos, negsuc, nat_abs}
use mathlib.Core.Bool.{cond}
use mir.Syntax.{w32}
use mir.Val.{SFits}
use mir.ValLaws.{to_z-of_z}
use Rattle.std.specs.Prelude.{Result, Ok, Err}
use Rattle.std.specs.Result.{OkIff, result_unwrap_or}
use Rattle.std.specs.Int.{FitsUnsignedBits}
use Rattle.std.proofs.lemmas.Bool.Decides.{nat_tests}
use Rattle.board.specs.Numbering.{clipped}
use Rattle.board.proofs.layout.clip.Goals as goal

lesser : (k n : ℕ) → min k n ≡ cond (ltb k n) k n
lesser k n = grind (arith, nat_tests)

clips : {E : Type 0} (n : ℕ) (x : ℤ) (r : Result ℕ E) → SFits w32 x → OkIff r (FitsUnsignedBits 32 x) (nat_abs x)
    → min (result_unwrap_or r n) n ≡ clipped n x
unfolding clipped
clips n (pos k) (Ok y) f h = ap (λ (a : ℕ). min a n) h.1 ∙ lesser k n
clips n (pos k) (Err e) f h = absurd (h (omega (arith, f.sfits)))
clips n (negsuc k) (Ok y) f h = absurd h.0
clips n (negsuc k) (Err e) f h = omega arith

pub returns : goal.returns
returns c =
    let back = to_z-of_z w32 c.args.x c.ranges.x in
    c.min.ensures ∙ rw (c.unwrap_or.ensures, c.from-last.ensures) (clips c.args.limit c.args.x c.try_from.result c.ranges.x (rw back at c.try_from.ensures))
