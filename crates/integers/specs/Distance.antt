-- Distance, equality and absolute bound of integers.
use Rattle.std.specs.Prelude.{ℕ, ◌≤◌, Bool, ◌&&◌, ℤ, pos, neg_ℤ, nat_abs, ◌-ℤ◌}
use Rattle.std.specs.Int.Signed.{le_z}

-- |a − b| ≤ e
abbrev pub Within : ℤ → ℤ → ℕ → Type 0
Within a b e = nat_abs (a -ℤ b) ≤ e

abbrev pub same : ℤ → ℤ → Bool
same a b = le_z a b && le_z b a

-- |z| ≤ m
abbrev pub is_within : ℕ → ℤ → Bool
is_within m z = le_z (neg_ℤ (pos m)) z && le_z z (pos m)
