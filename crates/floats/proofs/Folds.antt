-- The rounding error of a sum of many values, added in order. Assumes nothing.
use mathlib.Core.Path.{◌≡◌, refl, sym, ap, ap₂, ◌∙◌}
use Prim.Native.Nat.{ℕ, zero, suc, ◌+◌, ◌-◌, ◌*◌, ◌/◌, ◌^◌, ◌≤◌, ◌<◌, zero-le, suc-le-suc}
use native.Mathlib.Nat.{le_trans, le_of_lt, lt_of_le_of_lt, le_of_suc-le-suc, le_of_suc-le, le_step, le_refl, mul-le-mul_right, le_of_mul-le-mul_right, mul-one}
use native.Mathlib.Nat.{pow-suc}
use native.Mathlib.Omega.{arith}
use mathlib.Core.Bool.{Bool, true, false, not}
use lib.IntN.{ℤ, pos, nat_abs, ◌+ℤ◌}
use lib.Dec.{T, leb, leb→le, nleb→lt, lit<, lit≤}
use lib.Pow.{pow-add, pow_pos}
use lib.Ieee.{Float, Format, binary32, prec, emax, low, size, add, fits}
use lib.Ieee.Fits.{add-fits}
use lib.Ieee.Digits.{size-lt, size-le, size_reaches}
use Rattle.integers.proofs.Parts.{plus, minus, add_is, abs_is, abs_add, parts_le, ext}
use Rattle.integers.proofs.Distances.{Near, near_refl, near_wider, near_trans, near_add}
use Rattle.floats.specs.Units.{value, units_of, Finite, nought, sum_to, exact_to}
use Rattle.floats.proofs.Values.{whole, value-size, value-nought, nought_parts}
use Rattle.floats.proofs.Close.{Close}
use Rattle.floats.proofs.Sums.{add_close}
use Rattle.floats.proofs.Ranges.{Nonpositive, nonpositive_size}

-- Error bound of i values, if the i-th partial sum is at most 2 ^ K i units. The first addition, to 0, is exact.
unfoldable pub errs : ℕ → (ℕ → ℕ) → ℕ → ℕ
errs p K zero = 0
errs p K (suc zero) = 0
errs p K (suc (suc i)) = errs p K (suc i) + 2 ^ (K (suc (suc i)) - p) / 2

-- a value of the format of at most b units
pub record Item (f : Format) (b : ℕ) (x : Float) : Type 0 where
  pub holds : T (fits f x)
  pub is_finite : Finite x
  pub small : nat_abs (value f x) ≤ b

pub item : {f : Format} {b : ℕ} {x : Float} → Nonpositive f b x → Item f b x
item h = record { holds = h.holds; is_finite = h.is_finite; small = nonpositive_size h }

pub item_nonpositive : {f : Format} {b : ℕ} {x : Float} → Item f b x → plus (value f x) ≡ 0 → Nonpositive f b x
item_nonpositive {f} {b} {x} h s = record { holds = h.holds; is_finite = h.is_finite; sign = s; small = omega (arith, abs_is (value f x)) }

-- acc is the float sum of i values of at most b units, and z the exact one
pub record Inv (f : Format) (b : ℕ) (K : ℕ → ℕ) (i : ℕ) (acc : Float) (z : ℤ) : Type 0 where
  pub holds : T (fits f acc)
  pub is_finite : Finite acc
  pub small : nat_abs (value f acc) ≤ i * b
  pub near : Near (value f acc) z (errs (prec f) K i)

pub inv_item : {f : Format} {b : ℕ} {K : ℕ → ℕ} {i : ℕ} {acc : Float} {z : ℤ} → Inv f b K i acc z → Item f (i * b) acc
inv_item v = record { holds = v.holds; is_finite = v.is_finite; small = v.small }

pub start : (f : Format) (b : ℕ) (K : ℕ → ℕ) → Inv f b K 0 nought (pos 0)
unfolding fits errs
start f b K = record { holds = tt; is_finite = tt; small = rw value-nought (omega arith); near = rw value-nought (near_refl (pos 0)) }

-- adding 0 is exact
add_nought : (f : Format) (x y : Float) (K : ℕ) → T (fits f x) → T (fits f y) → Finite x → Finite y → nat_abs (value f x) ≤ 0
    → nat_abs (value f y) ≤ 2 ^ K → suc K ≤ low f + suc (emax f)
    → value f (add f x y) ≡ value f x +ℤ value f y
add_nought f x y K fx fy x₀ y₀ h l o =
    let w = whole f y fy y₀ in
    let z : value f x +ℤ value f y ≡ value f y = ext (value f x +ℤ value f y) (value f y) (omega (arith, add_is (value f x) (value f y), abs_is (value f x))) in
    let c = add_close f x y K fx fy x₀ y₀ (rw z l) o in
    c.exact w.c w.j w.short (ap nat_abs z ∙ value-size f y w)

-- n values of at most b = c × 2 ^ j units each, where each i × c fits the format's digits. So rounding the i-th partial sum does not
-- cross i × b, and the bounds need no allowance for errors.
pub record Schedule (f : Format) (c j n : ℕ) (K : ℕ → ℕ) : Type 0 where
  pub few : n * c < 2 ^ prec f
  pub room : (i : ℕ) → i ≤ n → i * (c * 2 ^ j) ≤ 2 ^ K i
  pub top : (i : ℕ) → i ≤ n → suc (K i) ≤ low f + suc (emax f)

sum_sign : (a b : ℤ) → plus a ≡ 0 → plus b ≡ 0 → plus (a +ℤ b) ≡ 0
sum_sign a b p q =
    let s = add_is a b in
    omega (arith, parts_le (a +ℤ b) (minus a + minus b) (omega arith) (omega arith))

module _ {f : Format} {c j n : ℕ} {K : ℕ → ℕ} (S : Schedule f c j n K) (i : ℕ) (acc : Float) (z : ℤ) (x : Float) (l : suc i ≤ n)
    (v : Inv f (c * 2 ^ j) K i acc z) (t : Item f (c * 2 ^ j) x) where
  within : nat_abs (value f acc +ℤ value f x) ≤ suc i * (c * 2 ^ j)
  within = omega (arith, abs_add (value f acc) (value f x))

  next : Close f (value f acc +ℤ value f x) (2 ^ (K (suc i) - prec f) / 2) (add f acc x)
  next = add_close f acc x (K (suc i)) v.holds t.holds v.is_finite t.is_finite (le_trans within (S.room (suc i) l)) (S.top (suc i) l)

  pub step : Inv f (c * 2 ^ j) K (suc i) (add f acc x) (z +ℤ value f x)
  unfolding errs
  step =
      record {
        holds = add-fits f acc x;
        is_finite = next.is_finite;
        small = le_trans (next.under (suc i * c) j (lt_of_le_of_lt (mul-le-mul_right c l) S.few) (omega (arith, within))) (omega arith);
        near = go i l v next;
      }
    where
      go : (i : ℕ) → suc i ≤ n → Inv f (c * 2 ^ j) K i acc z → Close f (value f acc +ℤ value f x) (2 ^ (K (suc i) - prec f) / 2) (add f acc x)
          → Near (value f (add f acc x)) (z +ℤ value f x) (errs (prec f) K (suc i))
      go zero l v k =
          rw (add_nought f acc x (K 1) v.holds t.holds v.is_finite t.is_finite (omega (arith, v.small))
          (le_trans t.small (le_trans (omega arith) (S.room 1 l))) (S.top 1 l))
          (near_add v.near (near_refl (value f x)))
      go (suc i) l v k = near_wider (omega arith) (near_trans k.near (near_add v.near (near_refl (value f x))))

  pub step_negative : plus (value f acc) ≡ 0 → plus (value f x) ≡ 0 → plus (value f (add f acc x)) ≡ 0
  step_negative p q = next.negative (sum_sign (value f acc) (value f x) p q)

-- ---- the sum of a family
-- equal terms have equal sums
pub sum_ext : (t u : ℕ → Float) (n : ℕ) → ((k : ℕ) → k < n → t k ≡ u k) → sum_to t n ≡ sum_to u n
unfolding sum_to
sum_ext t u zero e = refl
sum_ext t u (suc n) e = ap₂ (add binary32) (sum_ext t u n (λ k h. e k (omega arith))) (e n (omega arith))

module _ {c j n : ℕ} {K : ℕ → ℕ} (S : Schedule binary32 c j n K) (t : ℕ → Float) where
  pub sum_error : (i : ℕ) → i ≤ n → ((k : ℕ) → k < i → Item binary32 (c * 2 ^ j) (t k)) → Inv binary32 (c * 2 ^ j) K i (sum_to t i) (exact_to t i)
  unfolding sum_to exact_to
  sum_error zero l a = start binary32 (c * 2 ^ j) K
  sum_error (suc i) l a = step S i (sum_to t i) (exact_to t i) (t i) l (sum_error i (le_of_suc-le l) (λ k h. a k (le_step h))) (a i (le_refl (suc i)))

  pub sum_negative : (i : ℕ) → i ≤ n → ((k : ℕ) → k < i → Nonpositive binary32 (c * 2 ^ j) (t k)) → plus (units_of (sum_to t i)) ≡ 0
  unfolding sum_to
  sum_negative zero l a = (nought_parts binary32).0
  sum_negative (suc i) l a =
      let m = le_of_suc-le l in
      let x = a i (le_refl (suc i)) in
      let v = sum_error i m (λ k h. item (a k (le_step h))) in
      step_negative S i (sum_to t i) (exact_to t i) (t i) l v (item x) (sum_negative i m (λ k h. a k (le_step h))) x.sign

-- ---- one bound for all partial sums
pub flat : (f : Format) (c j n k : ℕ) → n * c < 2 ^ prec f → n * (c * 2 ^ j) ≤ 2 ^ k → suc k ≤ low f + suc (emax f) → Schedule f c j n (λ _. k)
flat f c j n k few room top = record { few = few; room = λ i l. le_trans (mul-le-mul_right (c * 2 ^ j) l) room; top = λ i l. top }

errs_suc : (p k i : ℕ) → errs p (λ _. k) (suc i) ≤ i * (2 ^ (k - p) / 2)
unfolding errs
errs_suc p k zero = zero-le
errs_suc p k (suc i) = go (2 ^ (k - p) / 2) (errs p (λ _. k) (suc i)) (errs_suc p k i)
  where
    go : (u e : ℕ) → e ≤ i * u → e + u ≤ suc i * u
    go u e h = omega arith

pub errs_flat : (p k m i : ℕ) → i ≤ suc m → errs p (λ _. k) i ≤ m * (2 ^ (k - p) / 2)
errs_flat p k m zero l = unfold errs in zero-le
errs_flat p k m (suc i) l = le_trans (errs_suc p k i) (mul-le-mul_right (2 ^ (k - p) / 2) (le_of_suc-le-suc l))

-- ---- a bound for each partial sum: i values of at most b units are at most 2 ^ tight b i
unfoldable pub tight : ℕ → ℕ → ℕ
unfolding size
tight b i = size (i * b - 1)

pub tight_schedule : (f : Format) (c j n m : ℕ) → n * c < 2 ^ prec f → n * (c * 2 ^ j) ≤ 2 ^ m → suc m ≤ low f + suc (emax f)
    → Schedule f c j n (tight (c * 2 ^ j))
unfolding tight
tight_schedule f c j n m few room top =
    let b = c * 2 ^ j in
    record {
      few = few;
      room = λ i l. above (i * b) (2 ^ size (i * b - 1)) (size-lt (i * b - 1));
      top = λ i l. le_trans (suc-le-suc (size-le (i * b - 1) m (under (i * b) (2 ^ m) (le_trans (mul-le-mul_right b l) room) (pow_pos m)))) top;
    }
  where
    above : (x y : ℕ) → x - 1 < y → x ≤ y
    above x y h = omega arith

    under : (x y : ℕ) → x ≤ y → 0 < y → x - 1 < y
    under x y h k = omega arith

-- half a unit in the last place of y, with p digits kept, is at most y / 2 ^ p
half_place : (p y : ℕ) → 2 ^ (size y - p) / 2 * 2 ^ p ≤ y
half_place p y = go (leb (size y) p) (leb→le (size y) p) (nleb→lt (size y) p)
  where
    go : (b : Bool) → (T b → size y ≤ p) → (T (not b) → p < size y) → 2 ^ (size y - p) / 2 * 2 ^ p ≤ y
    go true s m =
        let e : size y - p ≡ 0 = let l = s tt in omega arith in
        rw e (omega arith)
    go false s m =
        let l : p < size y = m tt in
        let w : 2 ^ (size y - p) * 2 ^ p ≡ 2 ^ (size y - 1) * 2 = sym (pow-add 2 (size y - p) p) ∙ ap (λ (x : ℕ). 2 ^ x) (last (size y) l)
        ∙ pow-suc 2 (size y - 1) in
        let h : 2 ^ (size y - p) / 2 * 2 * 2 ^ p ≤ 2 ^ (size y - p) * 2 ^ p = mul-le-mul_right (2 ^ p) (omega arith) in
        omega (arith, size_reaches y (size y - 1) (omega arith))
      where
        last : (x : ℕ) → p < x → x - p + p ≡ suc (x - 1)
        last x g = omega arith

-- the rounding error of the i-th addition is at most i × b / 2 ^ p
pub errs_long : (p b n : ℕ) → errs p (tight b) n * 2 ^ suc p ≤ n * (n + 1) * b
unfolding errs tight
errs_long p b zero = omega arith
errs_long p b (suc zero) = omega arith
errs_long p b (suc (suc i)) =
    let y = suc (suc i) * b - 1 in
    go (errs p (tight b) (suc i)) (2 ^ (size y - p) / 2) (errs_long p b (suc i)) (half_place p y)
  where
    go : (e u : ℕ) → e * 2 ^ suc p ≤ suc i * (suc i + 1) * b → u * 2 ^ p ≤ suc (suc i) * b - 1 → (e + u) * 2 ^ suc p ≤ suc (suc i) * (suc (suc i) + 1) * b
    go e u h k = omega (arith, ap (λ (x : ℕ). u * x) (pow-suc 2 p))

-- if the bound is a multiple of 2 ^ (p + 1)
pub errs_tight : (p d n : ℕ) → errs p (tight (d * 2 ^ suc p)) n ≤ n * (n + 1) * d
errs_tight p d n = le_of_mul-le-mul_right {k = 2 ^ suc p} (omega (arith, errs_long p (d * 2 ^ suc p) n)) (pow_pos (suc p))

-- ---- at most 64 values from −8 to 0: each addition has a rounding error of at most 2⁻¹⁶
pub schedule_64 : Schedule binary32 1 152 64 (λ _. 158)
schedule_64 = flat binary32 1 152 64 158 (lit< tt) (lit≤ tt) (lit≤ tt)

pub near_64 : {n : ℕ} {acc : Float} {z : ℤ} → n ≤ 64 → Inv binary32 (2 ^ 152) (λ _. 158) n acc z → Near (units_of acc) z (64 * 2 ^ 133)
near_64 {n} l v = near_wider (le_trans (errs_flat 24 158 63 n l) (lit≤ tt)) v.near

pub sum_of_64 : (t : ℕ → Float) (n : ℕ) → n ≤ 64 → ((k : ℕ) → k < n → Nonpositive binary32 (2 ^ 152) (t k))
    → Nonpositive binary32 (n * 2 ^ 152) (sum_to t n) × Near (units_of (sum_to t n)) (exact_to t n) (64 * 2 ^ 133)
sum_of_64 t n l a =
    let v = sum_error schedule_64 t n l (λ k h. item (a k h)) in
    (item_nonpositive (inv_item v) (sum_negative schedule_64 t n l a), near_64 l v)

-- ---- values of size at most 512: the i-th addition has a rounding error of at most 2 i × 2⁻¹⁶
pub long_schedule : (n : ℕ) → n < 2 ^ 24 → Schedule binary32 1 158 n (tight (2 ^ 158))
long_schedule n l = tight_schedule binary32 1 158 n 182 (rw mul-one l) (le_trans (mul-le-mul_right (2 ^ 158) (le_of_lt l)) (lit≤ tt)) (lit≤ tt)

pub long-near : {n : ℕ} {acc : Float} {z : ℤ} → Inv binary32 (2 ^ 158) (tight (2 ^ 158)) n acc z → Near (units_of acc) z (n * (n + 1) * 2 ^ 133)
long-near {n} v = near_wider (errs_tight 24 (2 ^ 133) n) v.near
