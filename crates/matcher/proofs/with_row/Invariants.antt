-- `matcher::with_row` meets its contract. The loop's invariant: `sum` has the bits of the rows above and of the first x columns of this row.
-- Assumes nothing.
use mathlib.Core.Path.{◌≡◌}
use Prim.Native.Nat.{◌+◌, ◌*◌}
use Rattle.matcher.specs.Codes.{from_bits, turned_bit}
use Rattle.matcher.proofs.with_row.Given as goal

abbrev pub invariant-loop-x : goal.invariant-loop-x
invariant-loop-x l = l.sum ≡ from_bits (turned_bit l.n l.turn l.code) (l.y * l.n + l.x)
