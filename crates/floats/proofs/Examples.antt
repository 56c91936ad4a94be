-- The definitions and a bound at concrete numbers. Assumes nothing.
use mathlib.Core.Path.{◌≡◌, refl}
use Prim.Native.Nat.{◌^◌}
use mathlib.Core.Bool.{true, false}
use lib.IntN.{pos, negsuc, neg_ℤ, nat_abs, ◌+ℤ◌, ◌-ℤ◌}
use lib.Ieee.{nan, fin, binary32, add, lt, of_bits}
use Rattle.floats.specs.Units.{value, units_of, unity, clamp01}

-- −8.0, from its bit pattern
minus_eight : units_of (of_bits binary32 0xC1000000) ≡ neg_ℤ (pos (2 ^ 152))
unfolding value of_bits
minus_eight = refl

-- 1 + 2⁻²⁴ is a tie and rounds to 1. Its rounding error 2⁻²⁴ attains the bound of `add_close` for sums up to 2.
no_better : nat_abs (units_of (add binary32 unity (fin false 1 (negsuc 23))) -ℤ (units_of unity +ℤ units_of (fin false 1 (negsuc 23)))) ≡ 2 ^ 125
unfolding value add
no_better = refl

-- NaN and −0.0 are not clamped
nan_stays : clamp01 nan ≡ nan
unfolding lt
nan_stays = refl

minus_nought_stays : clamp01 (fin true 0 (pos 0)) ≡ fin true 0 (pos 0)
unfolding lt
minus_nought_stays = refl
