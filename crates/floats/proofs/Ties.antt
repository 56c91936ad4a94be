-- Two finite floats of which neither is less are equal, or both are zeros; and the difference of a positive float and each is the same. Assumes nothing.
use mathlib.Core.Path.{◌≡◌, refl, sym, ap, ◌∙◌}
use mathlib.Core.Logic.{◌⊎◌, inl, inr}
use mathlib.Core.Bool.{Bool, true, false, ◌&&◌, false≢true}
use Prim.Native.Nat.{ℕ, zero, suc, ◌+◌, ◌-◌, ◌*◌, ◌%◌, ◌^◌, ◌<◌}
use native.Mathlib.Nat.{mul-one, mul-pos, pow-succ', zero-lt-suc}
use native.Mathlib.Omega.{arith}
use lib.Dec.{T, ltb, leb, eqb, eqb→eq, eqb-suc-zero, lit<}
use lib.IntN.{ℤ, pos, negsuc}
use lib.Ieee.{Float, nan, inf, fin, Format, binary32, prec, emax, low, up, down, below, round, neg, sum, add, sub, div, lt, fits}
use lib.Ieee.Fits.{up_pos, down_pos, and_l}
use lib.Ieee.Scale.{round_same}
use borrow.Author.Tests.{ltb-false, le-ltb}
use Rattle.floats.specs.Units.{Finite, nought}

-- ---- a number is m × 2^e with an odd m in one way
even_odd : (m t : ℕ) → m % 2 ≡ 1 → m ≡ 2 * t → ⊥
even_odd m t o h = omega arith

odd_pow : (m n a b : ℕ) → m % 2 ≡ 1 → n % 2 ≡ 1 → m * 2 ^ a ≡ n * 2 ^ b → (m ≡ n) × (a ≡ b)
odd_pow m n zero zero o p h = (sym (mul-one m) ∙ h ∙ mul-one n, refl)
odd_pow m n zero (suc b) o p h = absurd (even_odd m (n * 2 ^ b) o (omega (arith, h, mul-one m, ap (λ (x : ℕ). n * x) (pow-succ' 2 b))))
odd_pow m n (suc a) zero o p h = absurd (even_odd n (m * 2 ^ a) p (omega (arith, h, mul-one n, ap (λ (x : ℕ). m * x) (pow-succ' 2 a))))
odd_pow m n (suc a) (suc b) o p h =
    let r = odd_pow m n a b o p (omega (arith, h, ap (λ (x : ℕ). m * x) (pow-succ' 2 a), ap (λ (x : ℕ). n * x) (pow-succ' 2 b))) in
    (r.0, ap suc r.1)

same_parts : (m n : ℕ) (e d : ℤ) → m % 2 ≡ 1 → n % 2 ≡ 1 → m * up e * down d ≡ n * up d * down e → (m ≡ n) × (e ≡ d)
same_parts m n (pos a) (pos b) o p h = let r = odd_pow m n a b o p (omega (arith, h)) in (r.0, ap pos r.1)
same_parts m n (pos a) (negsuc b) o p h =
    absurd (even_odd n (m * 2 ^ a * 2 ^ b) p (omega (arith, h, ap (λ (x : ℕ). m * 2 ^ a * x) (pow-succ' 2 b))))
same_parts m n (negsuc a) (pos b) o p h =
    absurd (even_odd m (n * 2 ^ b * 2 ^ a) o (omega (arith, h, ap (λ (x : ℕ). n * 2 ^ b * x) (pow-succ' 2 a))))
same_parts m n (negsuc a) (negsuc b) o p h =
    let r = odd_pow m n (suc b) (suc a) o p (omega (arith, h)) in
    let same : a ≡ b = omega (arith, r.1) in
    (r.0, ap negsuc same)

-- ---- two floats
abbrev pub Zero : Float → Type 0
Zero x = (s : Bool) × (e : ℤ) × (x ≡ fin s 0 e)

is_odd : (f : Format) (s : Bool) (m : ℕ) (e : ℤ) → T (fits f (fin s (suc m) e)) → suc m % 2 ≡ 1
unfolding fits
is_odd f s m e t =
    eqb→eq (suc m % 2) 1 (and_l (eqb (suc m % 2) 1) (ltb (suc m) (2 ^ prec f)) (and_l (eqb (suc m % 2) 1 && ltb (suc m) (2 ^ prec f)) (leb (down e) (2 ^ low f))
    (and_l (eqb (suc m % 2) 1 && ltb (suc m) (2 ^ prec f) && leb (down e) (2 ^ low f)) (ltb (suc m * up e) (2 ^ suc (emax f) * down e)) t)))

same_size : (s t : Bool) (A B : ℕ) → below s A t B ≡ false → below t B s A ≡ false → ((s ≡ t) × (A ≡ B)) ⊎ ((A ≡ 0) × (B ≡ 0))
same_size false false A B p q = inl (refl, omega (arith, ltb-false A B p, ltb-false B A q))
same_size true true A B p q = inl (refl, omega (arith, ltb-false A B q, ltb-false B A p))
same_size false true A B p q = inr (omega (arith, ltb-false 0 (B + A) q), omega (arith, ltb-false 0 (B + A) q))
same_size true false A B p q = inr (omega (arith, ltb-false 0 (A + B) p), omega (arith, ltb-false 0 (A + B) p))

above_zero : (m : ℕ) (e d : ℤ) → 0 < suc m * up e * down d
above_zero m e d = mul-pos (mul-pos (zero-lt-suc m) (up_pos e)) (down_pos d)

pub tied_floats : (f : Format) (x y : Float) → T (fits f x) → T (fits f y) → Finite x → Finite y → lt x y ≡ false → lt y x ≡ false
    → (x ≡ y) ⊎ (Zero x × Zero y)
unfolding lt
tied_floats f nan y fx fy x₀ y₀ p q = absurd x₀
tied_floats f (inf s) y fx fy x₀ y₀ p q = absurd x₀
tied_floats f (fin s m e) nan fx fy x₀ y₀ p q = absurd y₀
tied_floats f (fin s m e) (inf t) fx fy x₀ y₀ p q = absurd y₀
tied_floats f (fin s m e) (fin t n d) fx fy x₀ y₀ p q = go m n fx fy (same_size s t (m * up e * down d) (n * up d * down e) p q)
  where
    go : (m n : ℕ) → T (fits f (fin s m e)) → T (fits f (fin t n d))
        → ((s ≡ t) × (m * up e * down d ≡ n * up d * down e)) ⊎ ((m * up e * down d ≡ 0) × (n * up d * down e ≡ 0))
        → (fin s m e ≡ fin t n d) ⊎ (Zero (fin s m e) × Zero (fin t n d))
    go zero zero fx fy h = inr ((s, e, refl), (t, d, refl))
    go zero (suc n) fx fy (inl h) = absurd (omega (arith, h.1, above_zero n d e))
    go zero (suc n) fx fy (inr h) = absurd (omega (arith, h.1, above_zero n d e))
    go (suc m) zero fx fy (inl h) = absurd (omega (arith, h.1, above_zero m e d))
    go (suc m) zero fx fy (inr h) = absurd (omega (arith, h.0, above_zero m e d))
    go (suc m) (suc n) fx fy (inl h) =
        let r = same_parts (suc m) (suc n) e d (is_odd f s m e fx) (is_odd f t n d fy) h.1 in
        inl (λ i. fin (h.0 i) (r.0 i) (r.1 i))
    go (suc m) (suc n) fx fy (inr h) = absurd (omega (arith, h.0, above_zero m e d))

-- ---- a positive float
pub record Positive (x : Float) : Type 0 where
  pub m : ℕ
  pub e : ℤ
  pub is : x ≡ fin false (suc m) e

pub is_positive : (x : Float) → Finite x → lt nought x ≡ true → Positive x
unfolding lt
is_positive nan x₀ h = absurd x₀
is_positive (inf s) x₀ h = absurd x₀
is_positive (fin true m e) x₀ h = absurd (false≢true h)
is_positive (fin false zero e) x₀ h = absurd (false≢true (sym (le-ltb (0 * 1 * down e) (0 * up e * 1) (omega arith)) ∙ h))
is_positive (fin false (suc m) e) x₀ h = record { m = m; e = e; is = refl }

not-zero : (x : Float) → Positive x → Zero x → ⊥
not-zero x p (s, e, z) = absurd (let c : fin false (suc p.m) p.e ≡ fin s 0 e = sym p.is ∙ z in let o : ◌≡◌ {A = ℕ} 0 1 = cc in omega arith)

pub tied_positive : (x y : Float) → T (fits binary32 x) → T (fits binary32 y) → Finite x → Finite y → Positive x → lt x y ≡ false → lt y x ≡ false → x ≡ y
tied_positive x y fx fy x₀ y₀ p a b = elim (tied_floats binary32 x y fx fy x₀ y₀ a b) [ inl e ↦ e | inr z ↦ absurd (not-zero x p z.0) ]

-- ---- differences and quotients
sub-zero : (m : ℕ) (e : ℤ) (t : Bool) (d : ℤ) → sub binary32 (fin false m e) (fin t 0 d) ≡ round binary32 false (m * up e) (down e)
unfolding sub add neg sum
sub-zero m e true d =
    round_same binary32 false (m * up e * down d + 0 * up d * down e) (down e * down d) (m * up e) (down e) (mul-pos (down_pos e) (down_pos d)) (down_pos e)
    (omega arith)
sub-zero m e false d =
    let A = m * up e * down d in
    let B = 0 * up d * down e in
    let same : A - B ≡ A = omega arith in
    rw (le-ltb A B (omega arith))
    (round_same binary32 false (A - B) (down e * down d) (m * up e) (down e) (mul-pos (down_pos e) (down_pos d)) (down_pos e)
    (ap (λ (k : ℕ). k * down e) same ∙ omega arith))

pub same_difference : (x y z : Float) → T (fits binary32 y) → T (fits binary32 z) → Finite y → Finite z → Positive x → lt y z ≡ false → lt z y ≡ false
    → sub binary32 x y ≡ sub binary32 x z
same_difference x y z fy fz y₀ z₀ p a b = elim (tied_floats binary32 y z fy fz y₀ z₀ a b) [
  | inl e ↦ ap (sub binary32 x) e
  | inr ((s, e, h), (t, d, k)) ↦
      rw (p.is, h, k) (sub-zero (suc p.m) p.e s e ∙ sym (sub-zero (suc p.m) p.e t d))
]

round_nought : (a b : ℕ) → 0 < b → a ≡ 0 → round binary32 false a b ≡ nought
unfolding round
round_nought a b h e = round_same binary32 false a b 0 1 h (lit< tt) (omega (arith, e))

pub sub_self : (x : Float) → Positive x → sub binary32 x x ≡ nought
unfolding sub add neg sum
sub_self x p =
    let A = suc p.m * up p.e * down p.e in
    rw p.is (rw (le-ltb A A (omega arith)) (round_nought (A - A) (down p.e * down p.e) (mul-pos (down_pos p.e) (down_pos p.e)) (omega arith)))

pub div_nought : (y : Float) → Positive y → div binary32 nought y ≡ nought
unfolding div
div_nought y p =
    let divisor : 0 < suc p.m * up p.e * 1 = mul-pos (mul-pos (zero-lt-suc p.m) (up_pos p.e)) (lit< tt) in
    rw p.is (rw eqb-suc-zero (round_nought (0 * 1 * down p.e) (suc p.m * up p.e * 1) divisor (omega arith)))
