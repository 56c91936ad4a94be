-- Ranges of floats as ranges of their values, and the ranges of `clamp01` and of a division. Assumes nothing.
use mathlib.Core.Path.{◌≡◌, refl}
use Prim.Native.Nat.{ℕ, zero, suc, ◌+◌, ◌*◌, ◌^◌, ◌≤◌, ◌<◌}
use native.Mathlib.Nat.{le_trans}
use native.Mathlib.Omega.{arith}
use mathlib.Core.Bool.{Bool, true, false, not, cond}
use lib.IntN.{pos, nat_abs, ◌-ℤ◌}
use lib.Dec.{T, ltb, ltb→lt, eqb-suc-zero}
use lib.Ieee.{Float, nan, inf, fin, Format, binary32, prec, emax, low, unlike, up, down, odd, units, round, div, lt, le, eq, fits, is_nan}
use lib.Ieee.Fits.{round_is}
use Rattle.integers.proofs.Parts.{plus, minus, sub_is_parts, abs_is, parts_le, no_plus, no_minus}
use Rattle.integers.proofs.Distances.{Le}
use Rattle.floats.specs.Units.{value, Finite, nought, unity, Between, clamp01}
use Rattle.floats.proofs.Values.{nought_parts}
use Rattle.floats.proofs.Compare.{le→Le, Le→le, not_lt→le}

-- ---- between two finite floats
pub between_finite : (l h x : Float) → Finite l → Finite h → Between l h x → Finite x
unfolding le lt eq
between_finite nan h x l₀ h₀ b = absurd l₀
between_finite (inf s) h x l₀ h₀ b = absurd l₀
between_finite (fin s m e) nan x l₀ h₀ b = absurd h₀
between_finite (fin s m e) (inf t) x l₀ h₀ b = absurd h₀
between_finite (fin s m e) (fin t n d) nan l₀ h₀ b = b.0
between_finite (fin s m e) (fin t n d) (inf true) l₀ h₀ b = b.0
between_finite (fin s m e) (fin t n d) (inf false) l₀ h₀ b = b.1
between_finite (fin s m e) (fin t n d) (fin u k g) l₀ h₀ b = tt

module _ (f : Format) (l h x : Float) (fl : T (fits f l)) (fh : T (fits f h)) (fx : T (fits f x)) (l₀ : Finite l) (h₀ : Finite h) where
  pub between_units : Between l h x → Le (value f l) (value f x) × Le (value f x) (value f h)
  between_units b =
      let x₀ = between_finite l h x l₀ h₀ b in
      (le→Le f l x fl fx l₀ x₀ b.0, le→Le f x h fx fh x₀ h₀ b.1)

  pub units_between : Finite x → Le (value f l) (value f x) → Le (value f x) (value f h) → Between l h x
  units_between x₀ p q = (Le→le f l x fl fx l₀ x₀ p, Le→le f x h fx fh x₀ h₀ q)

-- ---- a finite value of the format, from −b units to 0
pub record Nonpositive (f : Format) (b : ℕ) (x : Float) : Type 0 where
  pub holds : T (fits f x)
  pub is_finite : Finite x
  pub sign : plus (value f x) ≡ 0
  pub small : minus (value f x) ≤ b

pub nonpositive_wider : {f : Format} {b d : ℕ} {x : Float} → b ≤ d → Nonpositive f b x → Nonpositive f d x
nonpositive_wider l h = record { holds = h.holds; is_finite = h.is_finite; sign = h.sign; small = le_trans h.small l }

pub nonpositive_size : {f : Format} {b : ℕ} {x : Float} → Nonpositive f b x → nat_abs (value f x) ≤ b
nonpositive_size {f} {b} {x} h = omega (arith, abs_is (value f x))

-- two of them are at most b units apart
pub nonpositive_apart : {f : Format} {b : ℕ} {x y : Float} → Nonpositive f b x → Nonpositive f b y → nat_abs (value f x -ℤ value f y) ≤ b
nonpositive_apart {f} {b} {x} {y} h k =
    let z = value f x -ℤ value f y in
    let s = sub_is_parts (value f x) (value f y) in
    omega (arith, abs_is z, parts_le z b (omega arith) (omega arith))

-- ---- a finite value of the format, from 0 to b units
pub record Nonnegative (f : Format) (b : ℕ) (x : Float) : Type 0 where
  pub holds : T (fits f x)
  pub is_finite : Finite x
  pub sign : minus (value f x) ≡ 0
  pub small : plus (value f x) ≤ b

pub nonnegative_size : {f : Format} {b : ℕ} {x : Float} → Nonnegative f b x → nat_abs (value f x) ≤ b
nonnegative_size {f} {b} {x} h = omega (arith, abs_is (value f x))

-- ---- the same as ranges of floats: one end is 0, and the other is any float b
module _ (f : Format) (b x : Float) (fb : T (fits f b)) (b₀ : Finite b) where
  pub nonpositive : T (fits f x) → Between b nought x → Nonpositive f (minus (value f b)) x
  unfolding fits
  nonpositive fx h =
      let o = nought_parts f in
      let k = between_units f b nought x fb tt fx b₀ tt h in
      let s = no_plus (value f x) (omega arith) in
      record { holds = fx; is_finite = between_finite b nought x b₀ tt h; sign = s; small = omega arith }

  pub nonpositive_between : plus (value f b) ≡ 0 → Nonpositive f (minus (value f b)) x → Between b nought x
  unfolding fits
  nonpositive_between p h =
      let o = nought_parts f in
      units_between f b nought x fb tt h.holds b₀ tt h.is_finite (omega arith) (omega arith)

  pub nonnegative : T (fits f x) → Between nought b x → Nonnegative f (plus (value f b)) x
  unfolding fits
  nonnegative fx h =
      let o = nought_parts f in
      let k = between_units f nought b x tt fb fx tt b₀ h in
      let s = no_minus (value f x) (omega arith) in
      record { holds = fx; is_finite = between_finite nought b x tt b₀ h; sign = s; small = omega arith }

-- ---- −8..0, 0..1, and back to −512..0
pub from_minus_8 : (x : Float) → T (fits binary32 x) → Between (fin true 1 (pos 3)) nought x → Nonpositive binary32 (2 ^ 152) x
unfolding value minus fits
from_minus_8 x fx h = nonpositive binary32 (fin true 1 (pos 3)) x tt tt fx h

pub to_one : (x : Float) → T (fits binary32 x) → Between nought unity x → Nonnegative binary32 (2 ^ 149) x
unfolding value plus fits
to_one x fx h = nonnegative binary32 unity x tt tt fx h

pub between_minus_512 : (x : Float) → Nonpositive binary32 (2 ^ 158) x → Between (fin true 1 (pos 9)) nought x
unfolding value plus minus fits
between_minus_512 x h = nonpositive_between binary32 (fin true 1 (pos 9)) x tt tt refl h

-- ---- `clamp01`
pub clamp01_between : (x : Float) → T (not (is_nan x)) → Between nought unity (clamp01 x)
clamp01_between x x₀ = go (lt x nought) (lt unity x) (not_lt→le x nought x₀ (unfold is_nan in tt)) (not_lt→le unity x (unfold is_nan in tt) x₀)
  where
    go : (a b : Bool) → (T (not a) → T (le nought x)) → (T (not b) → T (le x unity)) → Between nought unity (cond a nought (cond b unity x))
    go true b p q = unfold le lt eq in (tt, tt)
    go false true p q = unfold le lt eq in (tt, tt)
    go false false p q = (p tt, q tt)

-- ---- `round` never returns NaN, so a division by a positive value does not. `units` is here that of `lib.Ieee`: the last step of `round`.
odd_not_nan : (d : ℕ) (s : Bool) (q k l : ℕ) → T (not (is_nan (odd d s q k l)))
unfolding odd is_nan
odd_not_nan d s zero k l = tt
odd_not_nan d s (suc q) k l = tt

units_not_nan : (f : Format) (s : Bool) (q k : ℕ) → T (not (is_nan (units f s q k)))
unfolding units
units_not_nan f s q k = go (ltb (q * 2 ^ k) (2 ^ (low f + suc (emax f))))
  where
    go : (b : Bool) → T (not (is_nan (cond b (odd (suc (prec f)) s q k (low f)) (inf s))))
    go true = odd_not_nan (suc (prec f)) s q k (low f)
    go false = unfold is_nan in tt

round_not_nan : (f : Format) (s : Bool) (n d : ℕ) → T (not (is_nan (round f s n d)))
round_not_nan f s n d = rw round_is (units_not_nan f s _ _)

pub div_not_nan : (f : Format) (x y : Float) → Finite x → Finite y → T (lt nought y) → T (not (is_nan (div f x y)))
unfolding div lt is_nan
div_not_nan f nan y x₀ y₀ h = absurd x₀
div_not_nan f (inf s) y x₀ y₀ h = absurd x₀
div_not_nan f (fin s m e) nan x₀ y₀ h = absurd y₀
div_not_nan f (fin s m e) (inf t) x₀ y₀ h = absurd y₀
div_not_nan f (fin s m e) (fin true n d) x₀ y₀ h = absurd h
div_not_nan f (fin s m e) (fin false zero d) x₀ y₀ h = absurd (nothing (up d) (down d) (ltb→lt (0 * 1 * down d) (0 * up d * 1) h))
  where
    nothing : (a b : ℕ) → 0 * 1 * b < 0 * a * 1 → ⊥
    nothing a b l = omega arith
div_not_nan f (fin s m e) (fin false (suc n) d) x₀ y₀ h = rw eqb-suc-zero (round_not_nan f (unlike s false) (m * up e * down d) (suc n * up d * down e))
