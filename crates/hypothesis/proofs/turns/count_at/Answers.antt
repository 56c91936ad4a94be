-- `hypothesis::turns::count_at` meets its contract. Assumes nothing.
use mathlib.Core.Path.{refl}
use Prim.Native.Nat.{◌%◌}
use native.Mathlib.Omega.{arith}
use borrow.Author.Tests.{eq-eqb, ne_eqb}
use Rattle.hypothesis.proofs.turns.count_at.Goals as goal

pub returns-then-n-eq0 : goal.returns-then-n-eq0
returns-then-n-eq0 c = rw (eq-eqb (c.args.n % 2) 0 (omega (arith, c.if-n-eq0.true))) refl

pub returns : goal.returns
returns c = rw (ne_eqb (c.args.n % 2) 0 (omega (arith, c.if-n-eq0.false))) refl
