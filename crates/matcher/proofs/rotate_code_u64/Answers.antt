-- `matcher::rotate_code_u64` meets its contract. The loop's invariant: `out` has the bits of the first y rows. Assumes nothing.
use mathlib.Core.Path.{sym, ap}
use native.Mathlib.Nat.{zero-mul}
use Rattle.matcher.specs.Codes.{from_bits, turned_bit}
use Rattle.matcher.proofs.rotate_code_u64.Goals as goal

pub loop-y-init : goal.loop-y-init
unfolding from_bits
loop-y-init c =
    let x = c.args in
    sym (ap (from_bits (turned_bit x.n x.turn x.code)) (zero-mul x.n))
