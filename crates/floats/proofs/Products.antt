-- The rounding error of a product. Assumes nothing.
use mathlib.Core.Path.{◌≡◌, refl, ap₂, ◌∙◌}
use Prim.Native.Nat.{ℕ, suc, ◌+◌, ◌-◌, ◌*◌, ◌/◌, ◌^◌, ◌≤◌}
use native.Mathlib.Nat.{mul-pos}
use native.Mathlib.Omega.{arith}
use mathlib.Core.Bool.{Bool}
use lib.IntN.{ℤ, nat_abs, ◌*ℤ◌}
use lib.Dec.{T}
use lib.Pow.{pow_pos}
use lib.Ieee.{Float, nan, inf, fin, Format, prec, emax, low, unlike, up, down, mul, fits}
use lib.Ieee.Fits.{down_pos}
use Rattle.floats.specs.Units.{signed, value, Finite}
use Rattle.floats.proofs.Grid.{Rounded, round_half}
use Rattle.floats.proofs.Close.{CloseTimes, signed_mul, close}
use Rattle.floats.proofs.Values.{abs_signed, value-is, whole}

mul_fin : (f : Format) (s : Bool) (m : ℕ) (e : ℤ) (t : Bool) (n : ℕ) (d : ℤ) (a b K : ℕ) → m * up e * 2 ^ low f ≡ a * down e → n * up d * 2 ^ low f ≡ b * down d
    → a * b ≤ 2 ^ low f * 2 ^ K → suc K ≤ low f + suc (emax f) → Rounded f (unlike s t) (a * b) (2 ^ low f) (2 ^ (K - prec f)) (mul f (fin s m e) (fin t n d))
unfolding mul
mul_fin f s m e t n d a b K p q h o =
    let l = 2 ^ low f in
    let c : m * up e * l * (n * up d * l) ≡ a * down e * (b * down d) = ap₂ ◌*◌ p q in
    round_half f (unlike s t) (m * up e * (n * up d)) (down e * down d) (a * b) l K (mul-pos (down_pos e) (down_pos d)) (pow_pos (low f)) (omega arith) h o

-- The exact product is `value f x *ℤ value f y` in units of 2 ^ −(2 × low f). If it is at most 2 ^ K of the format's units, its
-- rounding error is at most half of 2 ^ (K − prec) of these.
pub mul_close : (f : Format) (x y : Float) (K : ℕ) → T (fits f x) → T (fits f y) → Finite x → Finite y
    → nat_abs (value f x *ℤ value f y) ≤ 2 ^ low f * 2 ^ K → suc K ≤ low f + suc (emax f)
    → CloseTimes f (2 ^ low f) (value f x *ℤ value f y) (2 ^ low f * 2 ^ (K - prec f) / 2) (mul f x y)
mul_close f nan y K fx fy x₀ y₀ h o = absurd x₀
mul_close f (inf s) y K fx fy x₀ y₀ h o = absurd x₀
mul_close f (fin s m e) nan K fx fy x₀ y₀ h o = absurd y₀
mul_close f (fin s m e) (inf t) K fx fy x₀ y₀ h o = absurd y₀
mul_close f (fin s m e) (fin t n d) K fx fy x₀ y₀ h o =
    let v = whole f (fin s m e) fx x₀ in
    let w = whole f (fin t n d) fy y₀ in
    let a = v.a in
    let b = w.a in
    let σ = unlike s t in
    let l = 2 ^ low f in
    let prod : value f (fin s m e) *ℤ value f (fin t n d) ≡ signed σ (a * b) =
    ap₂ ◌*ℤ◌ (value-is f (fin s m e) s a (refl, v.has.1)) (value-is f (fin t n d) t b (refl, w.has.1)) ∙ signed_mul s t a b in
    let k = mul_fin f s m e t n d a b K v.has.1 w.has.1 (rw (prod, abs_signed) at h) o in
    rw prod (close f σ (a * b) l (2 ^ (K - prec f)) (mul f (fin s m e) (fin t n d)) k)
