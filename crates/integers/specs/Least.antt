-- Minimum and maximum of two integers, and of f 0 to f n.
use Rattle.std.specs.Prelude.{ℕ, zero, suc, cond, ℤ}
use Rattle.std.specs.Int.Signed.{le_z}

abbrev pub lesser : ℤ → ℤ → ℤ
lesser x y = cond (le_z x y) x y

abbrev pub higher : ℤ → ℤ → ℤ
higher x y = cond (le_z x y) y x

-- minimum and maximum of f 0 to f n
unfoldable pub least_to : (ℕ → ℤ) → ℕ → ℤ
least_to f zero = f 0
least_to f (suc n) = lesser (least_to f n) (f (suc n))

unfoldable pub greatest_to : (ℕ → ℤ) → ℕ → ℤ
greatest_to f zero = f 0
greatest_to f (suc n) = higher (greatest_to f n) (f (suc n))
