-- A number and its bits. Assumes nothing.
use mathlib.Core.Path.{◌≡◌, refl, sym, ap, ap₂, ◌∙◌}
use mathlib.Core.Logic.{◌⊎◌, inl, inr}
use Prim.Native.Nat.{ℕ, zero, suc, ◌+◌, ◌-◌, ◌*◌, ◌/◌, ◌%◌, ◌^◌, ◌≤◌, ◌<◌}
use native.Mathlib.Nat.{mod-lt, mod-eq_of_lt, mul-le-mul_right, pow-suc, add-mul-div_right, add-mul-mod_self_right, mod-one, eq-or-lt_of_le, le_of_suc-le-suc}
use native.Mathlib.Nat.{lt_of_lt_of_le}
use native.Mathlib.Numerals.{one-add, add-one}
use native.Mathlib.Omega.{arith}
use lib.Dec.{lit<}
use lib.Pow.{pow_pos, pow-add, pow_mono, shl_exact, high, mod-pow-add}
use Rattle.matcher.specs.Codes.{bit, from_bits}

-- every value is 0 or 1
abbrev pub Bits : (ℕ → ℕ) → Type 0
Bits f = (k : ℕ) → f k < 2

pub bit-small : (c k : ℕ) → bit c k < 2
bit-small c k = mod-lt (c / 2 ^ k) (lit< tt)

pub from_ext : (f g : ℕ → ℕ) (n : ℕ) → ((k : ℕ) → k < n → f k ≡ g k) → from_bits f n ≡ from_bits g n
unfolding from_bits
from_ext f g zero e = refl
from_ext f g (suc n) e =
    ap₂ (λ (a b : ℕ). a + b * 2 ^ n) (from_ext f g n (λ k h. e k (omega arith))) (e n (omega arith))

pub from-below : (f : ℕ → ℕ) → Bits f → (n : ℕ) → from_bits f n < 2 ^ n
unfolding from_bits
from-below f b zero = lit< tt
from-below f b (suc n) =
    let h : f n ≤ 1 = le_of_suc-le-suc (b n) in
    omega (arith, from-below f b n, mul-le-mul_right (2 ^ n) h, pow-suc 2 n)

-- adding a multiple of 2 ^ n leaves the bits below n unchanged
pub bit-under : (a b n k : ℕ) → k < n → bit (a + b * 2 ^ n) k ≡ bit a k
bit-under a b n k h =
    ap (λ (m : ℕ). (a + m) / 2 ^ k % 2) split
    ∙ ap (λ (m : ℕ). m % 2) (add-mul-div_right a (b * 2 ^ (n - suc k) * 2) (pow_pos k))
    ∙ add-mul-mod_self_right (a / 2 ^ k) (b * 2 ^ (n - suc k)) 2
  where
    power : 2 ^ n ≡ 2 ^ (n - suc k) * 2 * 2 ^ k
    power =
        ap (λ (m : ℕ). 2 ^ m) (omega arith) ∙ pow-add 2 (suc (n - suc k)) k
        ∙ ap (λ (m : ℕ). m * 2 ^ k) (pow-suc 2 (n - suc k))

    split : b * 2 ^ n ≡ b * 2 ^ (n - suc k) * 2 * 2 ^ k
    split = rw power (omega arith)

pub bit-from : (f : ℕ → ℕ) → Bits f → (n k : ℕ) → k < n → bit (from_bits f n) k ≡ f k
unfolding from_bits
bit-from f b zero k h = absurd (omega arith)
bit-from f b (suc n) k h = go (eq-or-lt_of_le (le_of_suc-le-suc h)) (bit-from f b n k)
  where
    top : bit (from_bits f n + f n * 2 ^ n) n ≡ f n
    top = ap (λ (m : ℕ). m % 2) (ap (λ (m : ℕ). m / 2 ^ n) (omega arith) ∙ high (f n) n (from-below f b n)) ∙ mod-eq_of_lt (b n)

    go : (k ≡ n) ⊎ (k < n) → (k < n → bit (from_bits f n) k ≡ f k) → bit (from_bits f n + f n * 2 ^ n) k ≡ f k
    go (inl e) ih = rw e top
    go (inr l) ih = bit-under (from_bits f n) (f n) n k l ∙ ih l

-- the number formed by bits 0 to n − 1
pub from_bits_lem : (c n : ℕ) → from_bits (bit c) n ≡ c % 2 ^ n
unfolding from_bits
from_bits_lem c zero = sym (mod-one c)
from_bits_lem c (suc n) =
    ap (λ (m : ℕ). m + bit c n * 2 ^ n) (from_bits_lem c n) ∙ omega (arith, rw one-add at (mod-pow-add c 1 n))

-- a code is determined by its bits
pub bits_determine : (n a b : ℕ) → a < 2 ^ n → b < 2 ^ n → ((k : ℕ) → k < n → bit a k ≡ bit b k) → a ≡ b
bits_determine n a b ha hb e =
    sym (mod-eq_of_lt ha) ∙ sym (from_bits_lem a n) ∙ from_ext (bit a) (bit b) n e ∙ from_bits_lem b n ∙ mod-eq_of_lt hb

-- ---- one more bit in a word of 64 bits
pub next_bit : (f : ℕ → ℕ) → Bits f → (k : ℕ) → k < 64 → from_bits f k + f k * 2 ^ k % 2 ^ 64 ≡ from_bits f (k + 1)
unfolding from_bits
next_bit f b k h = ap (λ (m : ℕ). from_bits f k + m) (shl_exact 1 k 64 (b k) (omega arith)) ∙ ap (from_bits f) (sym (add-one k))

pub word_below : (f : ℕ → ℕ) → Bits f → (k : ℕ) → k ≤ 64 → from_bits f k < 2 ^ 64
word_below f b k h = lt_of_lt_of_le (from-below f b k) (pow_mono {j = 64} h)
