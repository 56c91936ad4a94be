-- A float's value in units of its format's smallest value, from `HasValue` and back. Assumes nothing.
use mathlib.Core.Path.{◌≡◌, refl, sym, ap, ◌∙◌}
use Prim.Native.Nat.{ℕ, zero, suc, ◌+◌, ◌-◌, ◌*◌, ◌/◌, ◌%◌, ◌^◌, ◌≤◌, ◌<◌}
use native.Mathlib.Nat.{lt_of_not-le, not-le_of_lt, le_of_suc-le-suc, mul-div_cancel, mul-one, mul_assoc, sub-add_cancel}
use native.Mathlib.Omega.{arith}
use mathlib.Core.Bool.{Bool, true, false, ◌&&◌, false≢true}
use lib.IntN.{ℤ, pos, negsuc, nat_abs}
use lib.Dec.{T, leb, ltb, eqb, leb→le, ltb→lt}
use lib.Pow.{pow-add, pow-lt, pow_pos}
use lib.Ieee.{Float, nan, inf, fin, Format, prec, emax, low, up, down, fits, is_nan}
use lib.Ieee.Fits.{and_l, and_r, down_pos}
use lib.Ieee.Exact.{HasValue}
use Rattle.floats.specs.Units.{signed, value, Finite, nought}
use Rattle.integers.proofs.Parts.{plus, minus, plus_neg, minus_neg}

-- ---- a signed number by its parts
pub signed_plus : (n : ℕ) → (plus (signed false n) ≡ n) × (minus (signed false n) ≡ 0)
unfolding plus minus
signed_plus n = (refl, refl)

pub signed_minus : (n : ℕ) → (plus (signed true n) ≡ 0) × (minus (signed true n) ≡ n)
unfolding plus minus
signed_minus n = (plus_neg (pos n), minus_neg (pos n))

-- ---- `HasValue` determines `value`
pub value-is : (f : Format) (x : Float) (s : Bool) (a : ℕ) → HasValue x s a (2 ^ low f) → value f x ≡ signed s a
unfolding value
value-is f nan s a h = absurd h
value-is f (inf t) s a h = absurd h
value-is f (fin t m e) s a h =
    ap (λ (b : Bool). signed b (m * up e * 2 ^ low f / down e)) h.0
    ∙ ap (λ (n : ℕ). signed s n) (ap (λ (n : ℕ). n / down e) h.1 ∙ mul-div_cancel a (down_pos e))

pub value_finite : (x : Float) (s : Bool) (a c : ℕ) → HasValue x s a c → Finite x
value_finite nan s a c h = h
value_finite (inf t) s a c h = h
value_finite (fin t m e) s a c h = tt

-- ---- only one value is a NaN
pub only_nan : (x : Float) → is_nan x ≡ true → x ≡ nan
unfolding is_nan
only_nan nan h = refl
only_nan (inf s) h = absurd (false≢true h)
only_nan (fin s m e) h = absurd (false≢true h)

-- ---- a finite value that fits is an integer multiple of the unit: c × 2 ^ j, with c of at most the format's digits
pub record Whole (f : Format) (x : Float) : Type 0 where
  pub s : Bool
  pub a : ℕ
  pub has : HasValue x s a (2 ^ low f)
  pub c : ℕ
  pub j : ℕ
  pub short : c < 2 ^ prec f
  pub is : a ≡ c * 2 ^ j

pow_le_back : (i j : ℕ) → 2 ^ i ≤ 2 ^ j → i ≤ j
pow_le_back i j h = le_of_suc-le-suc (lt_of_not-le (λ (g : suc j ≤ i). not-le_of_lt (pow-lt g) h))

whole_fin : (f : Format) (t : Bool) (m : ℕ) (e : ℤ) → down e ≤ 2 ^ low f → m < 2 ^ prec f → Whole f (fin t m e)
whole_fin f t m (pos k) h n =
    record {
      s = t;
      a = m * 2 ^ k * 2 ^ low f;
      has = (refl, sym (mul-one (m * 2 ^ k * 2 ^ low f)));
      c = m;
      j = k + low f;
      short = n;
      is = mul_assoc m (2 ^ k) (2 ^ low f) ∙ ap (λ (x : ℕ). m * x) (sym (pow-add 2 k (low f)));
    }
whole_fin f t m (negsuc k) h n =
    let l = low f in
    let le : suc k ≤ l = pow_le_back (suc k) l h in
    let e : 2 ^ l ≡ 2 ^ (l - suc k) * 2 ^ suc k = ap (λ (x : ℕ). 2 ^ x) (sym (sub-add_cancel le)) ∙ pow-add 2 (l - suc k) (suc k) in
    record {
      s = t;
      a = m * 1 * 2 ^ (l - suc k);
      has = (refl, ap (λ (x : ℕ). m * 1 * x) e ∙ sym (mul_assoc (m * 1) (2 ^ (l - suc k)) (2 ^ suc k)));
      c = m;
      j = l - suc k;
      short = n;
      is = ap (λ (x : ℕ). x * 2 ^ (l - suc k)) (mul-one m);
    }

pub whole : (f : Format) (x : Float) → T (fits f x) → Finite x → Whole f x
unfolding fits
whole f nan t h = absurd h
whole f (inf s) t h = absurd h
whole f (fin s zero e) t h = record { s = s; a = 0; has = (refl, zero_all (up e) (2 ^ low f) (down e)); c = 0; j = 0; short = pow_pos (prec f); is = refl }
  where
    zero_all : (u l d : ℕ) → 0 * u * l ≡ 0 * d
    zero_all u l d = omega arith
whole f (fin s (suc m) e) t h =
    let a : Bool = eqb (suc m % 2) 1 in
    let b : Bool = ltb (suc m) (2 ^ prec f) in
    let c : Bool = leb (down e) (2 ^ low f) in
    let d : Bool = ltb (suc m * up e) (2 ^ suc (emax f) * down e) in
    whole_fin f s (suc m) e (leb→le (down e) (2 ^ low f) (and_r (a && b) c (and_l (a && b && c) d t)))
    (ltb→lt (suc m) (2 ^ prec f) (and_r a b (and_l (a && b) c (and_l (a && b && c) d t))))

-- ---- sizes
pub abs_signed : (σ : Bool) (g : ℕ) → nat_abs (signed σ g) ≡ g
abs_signed false g = refl
abs_signed true zero = refl
abs_signed true (suc g) = refl

pub value-size : (f : Format) (x : Float) (w : Whole f x) → nat_abs (value f x) ≡ w.c * 2 ^ w.j
value-size f x w = ap nat_abs (value-is f x w.s w.a w.has) ∙ abs_signed w.s w.a ∙ w.is

-- ---- 0
pub value-nought : (f : Format) → value f nought ≡ pos 0
value-nought f = value-is f nought false 0 (refl, omega arith)

pub nought_parts : (f : Format) → (plus (value f nought) ≡ 0) × (minus (value f nought) ≡ 0)
unfolding plus minus
nought_parts f = rw value-nought (refl, refl)
