-- What is known of a rounded value, in integers. Assumes nothing.
use mathlib.Core.Path.{◌≡◌, refl, sym, ap, ◌∙◌}
use Prim.Native.Nat.{ℕ, zero, suc, ◌+◌, ◌*◌, ◌/◌, ◌^◌, ◌≤◌, ◌<◌}
use native.Mathlib.Nat.{le_antisymm, le_of_eq, mul_comm, mul-zero, zero-mul, one-mul}
use native.Mathlib.Omega.{arith}
use mathlib.Core.Bool.{Bool, true, false}
use lib.IntN.{ℤ, pos, neg_ℤ, nat_abs, ◌*ℤ◌}
use lib.Pow.{pow_pos}
use lib.Ieee.{Float, Format, prec, low, unlike}
use Rattle.integers.proofs.Parts.{plus, minus, ext}
use Rattle.integers.proofs.Distances.{Near, scale_is}
use Rattle.floats.specs.Units.{signed, value, Finite}
use Rattle.floats.proofs.Grid.{Rounded}
use Rattle.floats.proofs.Values.{abs_signed, signed_plus, signed_minus, value-is, value_finite}

-- r is z / w units, rounded: finite, with r × w within e of z. Rounding does not cross a number c × 2 ^ j with c of at most the
-- format's digits; 0 is such a number.
pub record CloseTimes (f : Format) (w : ℕ) (z : ℤ) (e : ℕ) (r : Float) : Type 0 where
  pub is_finite : Finite r
  pub near : Near (value f r *ℤ pos w) z e
  pub under : (c j : ℕ) → c < 2 ^ prec f → nat_abs z ≤ w * (c * 2 ^ j) → nat_abs (value f r) ≤ c * 2 ^ j
  pub exact : (c j : ℕ) → c < 2 ^ prec f → nat_abs z ≡ w * (c * 2 ^ j) → value f r *ℤ pos w ≡ z
  pub negative : plus z ≡ 0 → plus (value f r) ≡ 0
  pub positive : minus z ≡ 0 → minus (value f r) ≡ 0

-- ---- signed integers
neg-zero : (n : ℕ) → n ≡ 0 → pos n ≡ neg_ℤ (pos n)
neg-zero n e = rw e

pub signed_mul : (s t : Bool) (a b : ℕ) → signed s a *ℤ signed t b ≡ signed (unlike s t) (a * b)
signed_mul false false a b = refl
signed_mul false true a zero = neg-zero (a * 0) (mul-zero a)
signed_mul false true a (suc b) = refl
signed_mul true false zero b = neg-zero (0 * b) (zero-mul b)
signed_mul true false (suc a) b = refl
signed_mul true true zero zero = refl
signed_mul true true zero (suc b) = sym (neg-zero (0 * suc b) (zero-mul (suc b)))
signed_mul true true (suc a) zero = sym (neg-zero (suc a * 0) (mul-zero (suc a)))
signed_mul true true (suc a) (suc b) = refl

scale : (σ : Bool) (g w : ℕ) → signed σ g *ℤ pos w ≡ signed σ (g * w)
scale false g w = refl
scale true g w = signed_mul true false g w

near_of : (σ : Bool) (g q e : ℕ) → g * 2 ≤ q * 2 + e → q * 2 ≤ g * 2 + e → Near (signed σ g) (signed σ q) (e / 2)
near_of false g q e a b = record { above = omega (arith, signed_plus q, signed_plus g); below = omega (arith, signed_plus q, signed_plus g) }
near_of true g q e a b = record { above = omega (arith, signed_minus q, signed_minus g); below = omega (arith, signed_minus q, signed_minus g) }

negative_of : (σ : Bool) (g q : ℕ) → (q ≤ 0 → g ≤ 0) → plus (signed σ q) ≡ 0 → plus (signed σ g) ≡ 0
negative_of false g q u h = let l : g ≤ 0 = u (omega (arith, signed_plus q)) in omega (arith, signed_plus g)
negative_of true g q u h = (signed_minus g).0

positive_of : (σ : Bool) (g q : ℕ) → (q ≤ 0 → g ≤ 0) → minus (signed σ q) ≡ 0 → minus (signed σ g) ≡ 0
positive_of false g q u h = (signed_plus g).1
positive_of true g q u h = let l : g ≤ 0 = u (omega (arith, signed_minus q)) in omega (arith, signed_minus g)

-- ---- from a signed fraction to integers
pub close : (f : Format) (σ : Bool) (q w u : ℕ) (r : Float) → Rounded f σ q w u r → CloseTimes f w (signed σ q) (w * u / 2) r
close f σ q w u r k =
    let g = k.g in
    let e : value f r ≡ signed σ g = value-is f r σ g k.has in
    let none : q ≤ 0 → g ≤ 0 = λ l. k.under 0 0 (pow_pos (prec f)) (omega arith) in
    record {
      is_finite = value_finite r σ g (2 ^ low f) k.has;
      near = rw (e, scale) (near_of σ (g * w) q (w * u) k.half.above k.half.below);
      under = λ c j c₀ l. rw (e, abs_signed) (k.under c j c₀ (rw abs_signed at l));
      exact = λ c j c₀ l.
          let m : q ≡ w * (c * 2 ^ j) = rw abs_signed at l in
          let a : g ≡ c * 2 ^ j = le_antisymm (k.under c j c₀ (le_of_eq m)) (k.over c j c₀ (le_of_eq (sym m))) in
          ap (λ (z : ℤ). z *ℤ pos w) e ∙ scale σ g w ∙ ap (λ (n : ℕ). signed σ n) (ap (λ (n : ℕ). n * w) a ∙ mul_comm (c * 2 ^ j) w ∙ sym m);
      negative = λ l. rw e (negative_of σ g q none l);
      positive = λ l. rw e (positive_of σ g q none l);
    }

-- ---- the same for an integer multiple of the unit
pub record Close (f : Format) (z : ℤ) (e : ℕ) (r : Float) : Type 0 where
  pub is_finite : Finite r
  pub near : Near (value f r) z e
  pub under : (c j : ℕ) → c < 2 ^ prec f → nat_abs z ≤ c * 2 ^ j → nat_abs (value f r) ≤ c * 2 ^ j
  pub exact : (c j : ℕ) → c < 2 ^ prec f → nat_abs z ≡ c * 2 ^ j → value f r ≡ z
  pub negative : plus z ≡ 0 → plus (value f r) ≡ 0
  pub positive : minus z ≡ 0 → minus (value f r) ≡ 0

times_one : (a : ℤ) → a *ℤ pos 1 ≡ a
times_one a = ext (a *ℤ pos 1) a (omega (arith, scale_is a 1))

pub close_units : (f : Format) (z : ℤ) (u : ℕ) (r : Float) → CloseTimes f 1 z (1 * u / 2) r → Close f z (u / 2) r
close_units f z u r k =
    record {
      is_finite = k.is_finite;
      near = rw (times_one, one-mul) at k.near;
      under = λ c j c₀ l. k.under c j c₀ (rw one-mul l);
      exact = λ c j c₀ l. sym (times_one (value f r)) ∙ k.exact c j c₀ (rw one-mul l);
      negative = k.negative;
      positive = k.positive;
    }
