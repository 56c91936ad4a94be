-- `floats::from_bits` meets its contract: a NaN pattern is the value NaN. Assumes nothing.
use mathlib.Core.Path.{sym, ◌∙◌}
use lib.Ieee.{nan_bits, of_bits, binary32}
use lib.Ieee.Bits.{nan_bits_is}
use Rattle.floats.proofs.Values.{only_nan}
use Rattle.floats.proofs.from_bits.Goals as goal

pub returns-then-is_nan_pattern : goal.returns-then-is_nan_pattern
unfolding nan_bits
returns-then-is_nan_pattern c =
    only_nan (of_bits binary32 0x7FC00000) (sym (nan_bits_is binary32 0x7FC00000))
    ∙ sym (only_nan (of_bits binary32 c.args.bits) (sym (nan_bits_is binary32 c.args.bits) ∙ sym c.is_nan_pattern.ensures ∙ c.if-is_nan_pattern.true))
