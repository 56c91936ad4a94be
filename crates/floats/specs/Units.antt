-- Floats as integer multiples of the smallest positive value, their sums, and their ranges.
use Rattle.std.specs.Prelude.{ℕ, zero, suc, ◌*◌, ◌/◌, ◌^◌, Bool, true, false, cond, ℤ, pos, neg_ℤ, ◌+ℤ◌, T, Float}
use Rattle.std.specs.Float.{nan, inf, fin, Format, binary32}
use Rattle.std.specs.Float.Ieee.{low, up, down, add, lt, le}
use Rattle.std.specs.Float.Ieee.Scale.{finite}

-- n with a sign
abbrev pub signed : Bool → ℕ → ℤ
signed false n = pos n
signed true n = neg_ℤ (pos n)

-- x in units of 2 ^ −low f, the smallest positive value: exact for every x that fits f. 0 if x is not finite.
unfoldable pub value : Format → Float → ℤ
value f nan = pos 0
value f (inf s) = pos 0
value f (fin s m e) = signed s (m * up e * 2 ^ low f / down e)

-- an f32 as an integer multiple of 2⁻¹⁴⁹
abbrev pub units_of : Float → ℤ
units_of x = value binary32 x

abbrev pub Finite : Float → Type 0
Finite x = T (finite x)

-- +0 and 1
abbrev pub nought : Float
nought = fin false 0 (pos 0)

abbrev pub unity : Float
unity = fin false 1 (pos 0)

-- t 0 + … + t (n − 1), in this order from +0: rounded as f32, and exact in units of 2⁻¹⁴⁹
unfoldable pub sum_to : (ℕ → Float) → ℕ → Float
sum_to t zero = nought
sum_to t (suc n) = add binary32 (sum_to t n) (t n)

unfoldable pub exact_to : (ℕ → Float) → ℕ → ℤ
exact_to t zero = pos 0
exact_to t (suc n) = exact_to t n +ℤ units_of (t n)

-- l ≤ x ≤ h
abbrev pub Between : Float → Float → Float → Type 0
Between l h x = T (le l x) × T (le x h)

-- x.clamp(0.0, 1.0): NaN stays NaN, and −0.0 stays −0.0
abbrev pub clamp01 : Float → Float
clamp01 x = cond (lt x nought) nought (cond (lt unity x) unity x)
