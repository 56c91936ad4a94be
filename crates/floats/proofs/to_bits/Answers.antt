-- `floats::to_bits` meets its contract. Assumes nothing.
use mathlib.Core.Path.{sym, ap}
use lib.Ieee.{to_bits, binary32}
use Rattle.floats.proofs.Values.{only_nan}
use Rattle.floats.proofs.to_bits.Goals as goal

pub returns-then-is_nan : goal.returns-then-is_nan
unfolding to_bits
returns-then-is_nan c = ap (to_bits binary32) (sym (only_nan c.args.x (sym c.if-is_nan.ensures.value)))
