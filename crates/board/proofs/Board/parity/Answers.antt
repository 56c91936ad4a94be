-- `board::Board::parity` meets its contract: that of a legacy board is its row count's. Assumes nothing.
use mathlib.Core.Path.{◌≡◌, refl}
use mathlib.Core.Bool.{cond}
use Prim.Native.Nat.{ℕ, zero, suc, ◌%◌, ◌<◌}
use native.Mathlib.Nat.{mod-lt}
use native.Mathlib.Omega.{arith}
use lib.Dec.{eqb, lit<}
use Rattle.board.specs.Layout.{even_parity, odd_parity, parity_of}
use Rattle.board.proofs.Board.parity.Goals as goal

of_rows : (n : ℕ) → n < 2 → n ≡ cond (eqb n 0) even_parity odd_parity
of_rows zero l = refl
of_rows (suc zero) l = refl
of_rows (suc (suc n)) l = absurd (omega arith)

pub returns-then-self : goal.returns-then-self
unfolding parity_of
returns-then-self c = let rows = c.args.self.rows in rw c.if-self.true (of_rows (rows % 2) (mod-lt rows (lit< tt)))

pub returns : goal.returns
unfolding parity_of
returns c = rw c.if-self.false refl
