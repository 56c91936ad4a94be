-- The sign of a difference and of a quotient, and a bound on a difference. Assumes nothing.
use mathlib.Core.Path.{◌≡◌, ap, ◌∙◌}
use mathlib.Core.Logic.{◌⊎◌, inl, inr}
use Prim.Native.Nat.{ℕ, zero, suc, ◌+◌, ◌-◌, ◌*◌, ◌/◌, ◌^◌, ◌≤◌, ◌<◌}
use native.Mathlib.Nat.{mul-pos, zero-mul}
use native.Mathlib.Omega.{arith}
use mathlib.Core.Bool.{Bool, true, false, not}
use lib.Dec.{T, lit<, eqb, eqb→eq, eqb-suc-zero, ltb→lt}
use lib.IntN.{ℤ, nat_abs, ◌-ℤ◌}
use lib.Ieee.{Float, nan, inf, fin, Format, binary32, prec, emax, low, unlike, up, down, round, is_nan, sub, div, lt, le, eq, fits, neg}
use lib.Ieee.Fits.{and_l, sub-fits, neg-fits, up_pos, down_pos}
use lib.Ieee.Order.{round_mono}
use lib.Ieee.Scale.{round_same}
use Rattle.integers.proofs.Parts.{plus, minus, plus_neg, minus_neg, sub_is_parts, abs_is, no_plus, no_minus}
use Rattle.integers.proofs.Distances.{lt_or_le}
use Rattle.floats.specs.Units.{value, Finite, nought}
use Rattle.floats.proofs.Values.{whole, value-size, nought_parts}
use Rattle.floats.proofs.Compare.{le→Le, Le→le}
use Rattle.floats.proofs.Close.{Close}
use Rattle.floats.proofs.Sums.{value_neg, finite_neg, sub_close}

-- ---- x − y is at least 0 if y is at most x
pub sub_nonnegative : (f : Format) (x y : Float) (K : ℕ) → T (fits f x) → T (fits f y) → Finite x → Finite y
    → nat_abs (value f x -ℤ value f y) ≤ 2 ^ K → suc K ≤ low f + suc (emax f) → T (le y x) → T (le nought (sub f x y))
unfolding fits
sub_nonnegative f x y K fx fy x₀ y₀ h o l =
    let z = value f x -ℤ value f y in
    let c = sub_close f x y K fx fy x₀ y₀ h o in
    let s = c.positive (no_minus z (omega (arith, le→Le f y x fy fx y₀ x₀ l, sub_is_parts (value f x) (value f y)))) in
    Le→le f nought (sub f x y) tt (sub-fits f x y) tt c.is_finite (omega (arith, nought_parts f))

-- ---- x − y is at most −y if neither is above 0: the exact value is, and rounding does not cross −y
pub sub_at_most : (f : Format) (x y : Float) (K : ℕ) → T (fits f x) → T (fits f y) → Finite x → Finite y
    → nat_abs (value f x -ℤ value f y) ≤ 2 ^ K → suc K ≤ low f + suc (emax f) → plus (value f x) ≡ 0 → plus (value f y) ≡ 0 → T (le (sub f x y) (neg y))
sub_at_most f x y K fx fy x₀ y₀ h o px py =
    Le→le f (sub f x y) (neg y) (sub-fits f x y) (neg-fits f y fy) c.is_finite (finite_neg y y₀)
    (omega (arith, ap plus (value_neg f y), plus_neg (value f y), minus_neg (value f y), ap minus (value_neg f y), go (lt_or_le (minus z) (plus z))))
  where
    z : ℤ
    z = value f x -ℤ value f y

    c : Close f z (2 ^ (K - prec f) / 2) (sub f x y)
    c = sub_close f x y K fx fy x₀ y₀ h o

    go : (minus z < plus z) ⊎ (plus z ≤ minus z) → plus (value f (sub f x y)) ≤ minus (value f y)
    go (inl l) =
        let w = whole f y fy y₀ in
        let least : nat_abs z ≤ w.c * 2 ^ w.j =
        omega (arith, value-size f y w, abs_is z, abs_is (value f y), no_minus z (omega arith), sub_is_parts (value f x) (value f y)) in
        let small = c.under w.c w.j w.short least in
        omega (arith, small, value-size f y w, abs_is (value f y), abs_is (value f (sub f x y)))
    go (inr l) = omega (arith, c.negative (no_plus z l))

-- ---- a quotient of a nonnegative by a positive value
round_positive : (n d : ℕ) → 0 < d → T (le nought (round binary32 false n d))
round_positive n d h = unfold round in round_mono binary32 0 1 n d (lit< tt) h (omega arith)

round-zero : (n d : ℕ) → 0 < d → n ≡ 0 → T (le nought (round binary32 true n d))
round-zero n d h e =
    let z : n * 1 ≡ 0 * d = omega arith in
    rw (round_same binary32 true n d 0 1 h (lit< tt) z) (unfold round le lt eq in tt)

-- −0 is the one negatively signed value that is at least 0
no_size : (m : ℕ) (e : ℤ) → T (le nought (fin true m e)) → m * up e ≡ 0
unfolding le lt eq
no_size m e l = omega (arith, eqb→eq (0 * 1 * down e) (m * up e * 1) (and_l (eqb (0 * 1 * down e) (m * up e * 1)) (eqb (0 * 1 * down e) 0) l))

not-zero : (d : ℤ) → T (lt nought (fin false 0 d)) → ⊥
unfolding lt
not-zero d h = go (up d) (down d) (ltb→lt (0 * 1 * down d) (0 * up d * 1) h)
  where
    go : (a b : ℕ) → 0 * 1 * b < 0 * a * 1 → ⊥
    go a b l = omega arith

pub div_nonnegative : (x y : Float) → Finite x → Finite y → T (le nought x) → T (lt nought y) → T (le nought (div binary32 x y))
unfolding div
div_nonnegative nan y x₀ y₀ l h = absurd x₀
div_nonnegative (inf s) y x₀ y₀ l h = absurd x₀
div_nonnegative (fin s m e) nan x₀ y₀ l h = absurd y₀
div_nonnegative (fin s m e) (inf t) x₀ y₀ l h = absurd y₀
div_nonnegative (fin s m e) (fin true n d) x₀ y₀ l h = absurd (unfold lt in h)
div_nonnegative (fin s m e) (fin false zero d) x₀ y₀ l h = absurd (not-zero d h)
div_nonnegative (fin s m e) (fin false (suc n) d) x₀ y₀ l h = rw eqb-suc-zero (go s l)
  where
    divisor : 0 < suc n * up d * down e
    divisor = mul-pos (mul-pos (omega arith) (up_pos d)) (down_pos e)

    go : (s : Bool) → T (le nought (fin s m e)) → T (le nought (round binary32 (unlike s false) (m * up e * down d) (suc n * up d * down e)))
    go false l = round_positive (m * up e * down d) (suc n * up d * down e) divisor
    go true l = round-zero (m * up e * down d) (suc n * up d * down e) divisor (ap (λ (k : ℕ). k * down d) (no_size m e l) ∙ zero-mul (down d))

-- what is at least 0 is not NaN
pub nonnegative_not_nan : (x : Float) → T (le nought x) → T (not (is_nan x))
unfolding is_nan le lt eq
nonnegative_not_nan nan l = l
nonnegative_not_nan (inf s) l = tt
nonnegative_not_nan (fin s m e) l = tt
