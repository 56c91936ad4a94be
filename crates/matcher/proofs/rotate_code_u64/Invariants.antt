-- `matcher::rotate_code_u64` meets its contract. The loop's invariant: `out` has the bits of the first y rows. Assumes nothing.
use mathlib.Core.Path.{◌≡◌}
use Prim.Native.Nat.{◌*◌}
use Rattle.matcher.specs.Codes.{from_bits, turned_bit}
use Rattle.matcher.proofs.rotate_code_u64.Given as goal

abbrev pub invariant-loop-y : goal.invariant-loop-y
invariant-loop-y l = l.out ≡ from_bits (turned_bit l.n l.turn l.code) (l.y * l.n)
