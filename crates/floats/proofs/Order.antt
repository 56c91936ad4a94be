-- The order of finite floats: "less" is irreflexive, and "less" and "not less" are transitive. Assumes nothing.
use mathlib.Core.Path.{◌≡◌, refl, sym, ◌∙◌}
use Prim.Native.Nat.{ℕ, ◌+◌, ◌*◌, ◌<◌}
use native.Mathlib.Nat.{zero-mul, add-mul, mul_right_comm, lt_of_mul-lt-mul_right, mul-lt-mul_of_pos_right}
use native.Mathlib.Omega.{arith}
use mathlib.Core.Bool.{Bool, true, false, false≢true}
use lib.Dec.{ltb}
use lib.Ieee.{Float, nan, inf, fin, up, down, lt}
use lib.Ieee.{below as signedBelow}
use lib.Ieee.Fits.{down_pos}
use borrow.Author.Tests.{ltb-true, ltb-false, lt-ltb, le-ltb}
use Rattle.floats.specs.Units.{Finite}

-- ---- a common factor cancels
ltb_scaled : (a b k : ℕ) → 0 < k → ltb (a * k) (b * k) ≡ ltb a b
ltb_scaled a b k h = go (ltb a b) (ltb (a * k) (b * k)) refl refl
  where
    go : (s t : Bool) → ltb a b ≡ s → ltb (a * k) (b * k) ≡ t → t ≡ s
    go true true p q = refl
    go false false p q = refl
    go true false p q = absurd (omega (arith, mul-lt-mul_of_pos_right (ltb-true a b p) h, ltb-false (a * k) (b * k) q))
    go false true p q = absurd (omega (arith, ltb-false a b p, lt_of_mul-lt-mul_right k (ltb-true (a * k) (b * k) q)))

scaled : (s t : Bool) (a b k : ℕ) → 0 < k → signedBelow s (a * k) t (b * k) ≡ signedBelow s a t b
scaled false false a b k h = ltb_scaled a b k h
scaled false true a b k h = refl
scaled true false a b k h = cc (add-mul a b k, zero-mul k, ltb_scaled 0 (a + b) k h)
scaled true true a b k h = ltb_scaled b a k h

-- ---- signed numbers
signed_self : (s : Bool) (a : ℕ) → signedBelow s a s a ≡ false
signed_self false a = le-ltb a a (omega arith)
signed_self true a = le-ltb a a (omega arith)

signed_trans : (s t u : Bool) (a b c : ℕ) → signedBelow s a t b ≡ true → signedBelow t b u c ≡ true → signedBelow s a u c ≡ true
signed_trans false false false a b c p q = lt-ltb a c (omega (arith, ltb-true a b p, ltb-true b c q))
signed_trans false false true a b c p q = q
signed_trans false true u a b c p q = absurd (false≢true p)
signed_trans true false false a b c p q = lt-ltb 0 (a + c) (omega (arith, ltb-true b c q))
signed_trans true false true a b c p q = absurd (false≢true q)
signed_trans true true false a b c p q = lt-ltb 0 (a + c) (omega (arith, ltb-true b a p))
signed_trans true true true a b c p q = lt-ltb c a (omega (arith, ltb-true b a p, ltb-true c b q))

signed_not_trans : (s t u : Bool) (a b c : ℕ) → signedBelow s a t b ≡ false → signedBelow t b u c ≡ false → signedBelow s a u c ≡ false
signed_not_trans false false false a b c p q = le-ltb a c (omega (arith, ltb-false a b p, ltb-false b c q))
signed_not_trans false t true a b c p q = refl
signed_not_trans false true false a b c p q = le-ltb a c (omega (arith, ltb-false 0 (b + c) q))
signed_not_trans true false false a b c p q = le-ltb 0 (a + c) (omega (arith, ltb-false 0 (a + b) p, ltb-false b c q))
signed_not_trans true false true a b c p q = le-ltb c a (omega (arith, ltb-false 0 (a + b) p))
signed_not_trans true true false a b c p q = le-ltb 0 (a + c) (omega (arith, ltb-false b a p, ltb-false 0 (b + c) q))
signed_not_trans true true true a b c p q = le-ltb c a (omega (arith, ltb-false b a p, ltb-false c b q))

-- ---- M / p, N / q and O / r with a sign, over the common denominator p × q × r
module _ (s t u : Bool) (M N O p q r : ℕ) where
  first : 0 < r → signedBelow s (M * q) t (N * p) ≡ signedBelow s (M * q * r) t (N * p * r)
  first h = sym (scaled s t (M * q) (N * p) r h)

  second : 0 < p → signedBelow t (N * r) u (O * q) ≡ signedBelow t (N * p * r) u (O * q * p)
  second h = cc (scaled t u (N * r) (O * q) p h, mul_right_comm N r p)

  both : 0 < q → signedBelow s (M * r) u (O * p) ≡ signedBelow s (M * q * r) u (O * q * p)
  both h = cc (scaled s u (M * r) (O * p) q h, mul_right_comm M r q, mul_right_comm O p q)

-- ---- finite floats
pub lt_self : (x : Float) → Finite x → lt x x ≡ false
unfolding lt
lt_self nan h = absurd h
lt_self (inf s) h = absurd h
lt_self (fin s m e) h = signed_self s (m * up e * down e)

lt_passed : (w : Bool) (x y z : Float) → Finite x → Finite y → Finite z
    → ((s t u : Bool) (a b c : ℕ) → signedBelow s a t b ≡ w → signedBelow t b u c ≡ w → signedBelow s a u c ≡ w) → lt x y ≡ w → lt y z ≡ w → lt x z ≡ w
unfolding lt
lt_passed w nan y z x₀ y₀ z₀ f h k = absurd x₀
lt_passed w (inf s) y z x₀ y₀ z₀ f h k = absurd x₀
lt_passed w (fin s m e) nan z x₀ y₀ z₀ f h k = absurd y₀
lt_passed w (fin s m e) (inf t) z x₀ y₀ z₀ f h k = absurd y₀
lt_passed w (fin s m e) (fin t n d) nan x₀ y₀ z₀ f h k = absurd z₀
lt_passed w (fin s m e) (fin t n d) (inf u) x₀ y₀ z₀ f h k = absurd z₀
lt_passed w (fin s m e) (fin t n d) (fin u o c) x₀ y₀ z₀ f h k =
    let M = m * up e in
    let N = n * up d in
    let O = o * up c in
    let p = down e in
    let q = down d in
    let r = down c in
    both s t u M N O p q r (down_pos d)
    ∙ f s t u (M * q * r) (N * p * r) (O * q * p) (sym (first s t u M N O p q r (down_pos c)) ∙ h) (sym (second s t u M N O p q r (down_pos e)) ∙ k)

module _ (x y z : Float) (x₀ : Finite x) (y₀ : Finite y) (z₀ : Finite z) where
  pub lt_trans : lt x y ≡ true → lt y z ≡ true → lt x z ≡ true
  lt_trans p q = lt_passed true x y z x₀ y₀ z₀ signed_trans p q

  pub not_lt_trans : lt x y ≡ false → lt y z ≡ false → lt x z ≡ false
  not_lt_trans p q = lt_passed false x y z x₀ y₀ z₀ signed_not_trans p q
