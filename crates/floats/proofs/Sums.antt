-- The rounding error of a sum and a difference. Assumes nothing.
use mathlib.Core.Path.{◌≡◌, refl, sym, ap, ap₂, ◌∙◌}
use Prim.Native.Nat.{ℕ, suc, ◌+◌, ◌-◌, ◌*◌, ◌/◌, ◌^◌, ◌≤◌, ◌<◌}
use native.Mathlib.Nat.{le_of_lt, le_of_mul-le-mul_right, mul-le-mul_right, mul-pos}
use native.Mathlib.Omega.{arith}
use mathlib.Core.Bool.{Bool, true, false, not, ◌&&◌, cond}
use lib.IntN.{ℤ, pos, neg_ℤ, nat_abs, ◌+ℤ◌, ◌-ℤ◌, neg_ℤ-neg_ℤ, +ℤ_comm}
use lib.Dec.{T, ltb, ltb→lt, nltb→le}
use lib.Ieee.{Float, nan, inf, fin, Format, prec, emax, low, up, down, round, sum, add, sub, neg, fits}
use lib.Ieee.Fits.{down_pos, neg-fits}
use Rattle.floats.specs.Units.{signed, value, Finite}
use Rattle.integers.proofs.Parts.{add_is, ext}
use Rattle.floats.proofs.Grid.{round_half}
use Rattle.floats.proofs.Close.{Close, close, close_units}
use Rattle.floats.proofs.Values.{abs_signed, signed_plus, signed_minus, value-is, whole}

-- ---- A / C is a / l, and B / C is b / l
scaled_le : (A B C a b l : ℕ) → 0 < C → A * l ≡ a * C → B * l ≡ b * C → A ≤ B → a ≤ b
scaled_le A B C a b l C₀ p q h = le_of_mul-le-mul_right {k = C} (omega (arith, mul-le-mul_right l h)) C₀

scaled_sub : (A B C a b l : ℕ) → 0 < C → A * l ≡ a * C → B * l ≡ b * C → A ≤ B → (B - A) * l ≡ (b - a) * C
scaled_sub A B C a b l C₀ p q h = go (B - A) (b - a) (omega arith) (let k = scaled_le A B C a b l C₀ p q h in omega arith)
  where
    go : (D d : ℕ) → D + A ≡ B → d + a ≡ b → D * l ≡ d * C
    go D d g k = omega (arith, ap (λ (x : ℕ). x * l) g, ap (λ (x : ℕ). x * C) k)

-- ---- ±a ± b, as a sign and a size
same_sign : (s : Bool) (a b : ℕ) → signed s a +ℤ signed s b ≡ signed s (a + b)
same_sign false a b = refl
same_sign true a b = ext (signed true a +ℤ signed true b) (signed true (a + b))
    (omega (arith, add_is (signed true a) (signed true b), signed_minus a, signed_minus b, signed_minus (a + b)))

first_sign : (s : Bool) (a b : ℕ) → b ≤ a → signed s a +ℤ signed (not s) b ≡ signed s (a - b)
first_sign false a b l = ext (pos a +ℤ signed true b) (pos (a - b))
    (omega (arith, add_is (pos a) (signed true b), signed_plus a, signed_minus b, signed_plus (a - b)))
first_sign true a b l = ext (signed true a +ℤ pos b) (signed true (a - b))
    (omega (arith, add_is (signed true a) (pos b), signed_minus a, signed_plus b, signed_minus (a - b)))

other_sign : (s : Bool) (a b : ℕ) → a ≤ b → signed s a +ℤ signed (not s) b ≡ signed (not s) (b - a)
other_sign false a b l = +ℤ_comm (pos a) (signed true b) ∙ first_sign true b a l
other_sign true a b l = +ℤ_comm (signed true a) (pos b) ∙ first_sign false b a l

-- ---- `sum`
module _ (f : Format) (A B C a b K : ℕ) (C₀ : 0 < C) (p : A * 2 ^ low f ≡ a * C) (q : B * 2 ^ low f ≡ b * C) (o : suc K ≤ low f + suc (emax f)) where
  -- z is n units with the sign σ, and n is N / C
  rounds : (σ : Bool) (N n : ℕ) (z : ℤ) → z ≡ signed σ n → N * 2 ^ low f ≡ n * C → nat_abs z ≤ 2 ^ K → Close f z (2 ^ (K - prec f) / 2) (round f σ N C)
  rounds σ N n z e k h =
      let u = 2 ^ (K - prec f) in
      let l : n ≤ 2 ^ K = rw (e, abs_signed) at h in
      rw e (close_units f (signed σ n) u (round f σ N C) (close f σ n 1 u (round f σ N C)
      (round_half f σ N C n 1 K C₀ (omega arith) (omega arith) (omega arith) o)))

  apart : (s : Bool) → nat_abs (signed s a +ℤ signed (not s) b) ≤ 2 ^ K
      → Close f (signed s a +ℤ signed (not s) b) (2 ^ (K - prec f) / 2) (cond (ltb A B) (round f (not s) (B - A) C) (round f (s && ltb B A) (A - B) C))
  apart s h = go s (ltb A B) (ltb B A) (ltb→lt A B) (nltb→le A B) (nltb→le B A) h
    where
      a≤b : A ≤ B → a ≤ b
      a≤b l = scaled_le A B C a b (2 ^ low f) C₀ p q l

      b≤a : B ≤ A → b ≤ a
      b≤a l = scaled_le B A C b a (2 ^ low f) C₀ q p l

      -- a sum that is 0 is +0
      even : B ≤ A → A ≤ B → signed true a +ℤ signed false b ≡ signed false (a - b)
      even k l = other_sign true a b (a≤b l) ∙ ap pos (let x = a≤b l in let y = b≤a k in omega arith)

      go : (s c d : Bool) → (T c → A < B) → (T (not c) → B ≤ A) → (T (not d) → A ≤ B) → nat_abs (signed s a +ℤ signed (not s) b) ≤ 2 ^ K
          → Close f (signed s a +ℤ signed (not s) b) (2 ^ (K - prec f) / 2) (cond c (round f (not s) (B - A) C) (round f (s && d) (A - B) C))
      go s true d l m w =
          let k : A ≤ B = le_of_lt (l tt) in
          rounds (not s) (B - A) (b - a) (signed s a +ℤ signed (not s) b) (other_sign s a b (a≤b k)) (scaled_sub A B C a b (2 ^ low f) C₀ p q k)
      go false false d l m w = rounds false (A - B) (a - b) (pos a +ℤ signed true b) (first_sign false a b (b≤a (m tt)))
          (scaled_sub B A C b a (2 ^ low f) C₀ q p (m tt))
      go true false true l m w = rounds true (A - B) (a - b) (signed true a +ℤ pos b) (first_sign true a b (b≤a (m tt)))
          (scaled_sub B A C b a (2 ^ low f) C₀ q p (m tt))
      go true false false l m w = rounds false (A - B) (a - b) (signed true a +ℤ pos b) (even (m tt) (w tt)) (scaled_sub B A C b a (2 ^ low f) C₀ q p (m tt))

  sum_close : (s t : Bool) → nat_abs (signed s a +ℤ signed t b) ≤ 2 ^ K → Close f (signed s a +ℤ signed t b) (2 ^ (K - prec f) / 2) (sum f s A t B C)
  unfolding sum
  sum_close false false h = rounds false (A + B) (a + b) (pos a +ℤ pos b) (same_sign false a b) (omega arith) h
  sum_close true true h = rounds true (A + B) (a + b) (signed true a +ℤ signed true b) (same_sign true a b) (omega arith) h
  sum_close false true h = apart false h
  sum_close true false h = apart true h

-- ---- `add` and `sub`
add_fin : (f : Format) (s : Bool) (m : ℕ) (e : ℤ) (t : Bool) (n : ℕ) (d : ℤ) (a b K : ℕ) → m * up e * 2 ^ low f ≡ a * down e → n * up d * 2 ^ low f ≡ b * down d
    → nat_abs (signed s a +ℤ signed t b) ≤ 2 ^ K → suc K ≤ low f + suc (emax f)
    → Close f (signed s a +ℤ signed t b) (2 ^ (K - prec f) / 2) (add f (fin s m e) (fin t n d))
unfolding add
add_fin f s m e t n d a b K p q h o =
    sum_close f (m * up e * down d) (n * up d * down e) (down e * down d) a b K (mul-pos (down_pos e) (down_pos d))
    (omega (arith, ap (λ (x : ℕ). x * down d) p)) (omega (arith, ap (λ (x : ℕ). x * down e) q)) o s t h

-- a sum of at most 2 ^ K units has a rounding error of at most half of 2 ^ (K − prec)
pub add_close : (f : Format) (x y : Float) (K : ℕ) → T (fits f x) → T (fits f y) → Finite x → Finite y → nat_abs (value f x +ℤ value f y) ≤ 2 ^ K
    → suc K ≤ low f + suc (emax f)
    → Close f (value f x +ℤ value f y) (2 ^ (K - prec f) / 2) (add f x y)
add_close f nan y K fx fy x₀ y₀ h o = absurd x₀
add_close f (inf s) y K fx fy x₀ y₀ h o = absurd x₀
add_close f (fin s m e) nan K fx fy x₀ y₀ h o = absurd y₀
add_close f (fin s m e) (inf t) K fx fy x₀ y₀ h o = absurd y₀
add_close f (fin s m e) (fin t n d) K fx fy x₀ y₀ h o =
    let v = whole f (fin s m e) fx x₀ in
    let w = whole f (fin t n d) fy y₀ in
    let sums : value f (fin s m e) +ℤ value f (fin t n d) ≡ signed s v.a +ℤ signed t w.a =
    ap₂ ◌+ℤ◌ (value-is f (fin s m e) s v.a (refl, v.has.1)) (value-is f (fin t n d) t w.a (refl, w.has.1)) in
    rw sums (add_fin f s m e t n d v.a w.a K v.has.1 w.has.1 (rw sums at h) o)

signed_not : (s : Bool) (n : ℕ) → signed (not s) n ≡ neg_ℤ (signed s n)
signed_not false n = refl
signed_not true n = sym (neg_ℤ-neg_ℤ (pos n))

pub value_neg : (f : Format) (x : Float) → value f (neg x) ≡ neg_ℤ (value f x)
unfolding value neg
value_neg f nan = refl
value_neg f (inf s) = refl
value_neg f (fin s m e) = signed_not s (m * up e * 2 ^ low f / down e)

pub finite_neg : (x : Float) → Finite x → Finite (neg x)
unfolding neg
finite_neg nan h = h
finite_neg (inf s) h = h
finite_neg (fin s m e) h = tt

pub sub_close : (f : Format) (x y : Float) (K : ℕ) → T (fits f x) → T (fits f y) → Finite x → Finite y → nat_abs (value f x -ℤ value f y) ≤ 2 ^ K
    → suc K ≤ low f + suc (emax f)
    → Close f (value f x -ℤ value f y) (2 ^ (K - prec f) / 2) (sub f x y)
unfolding sub
sub_close f x y K fx fy x₀ y₀ h o =
    let e = value_neg f y in
    rw (← e) (add_close f x (neg y) K fx (neg-fits f y fy) x₀ (finite_neg y y₀) (rw e h) o)
