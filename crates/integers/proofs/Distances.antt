-- Order and distance of integers, as inequalities of their parts, so that `omega` reads them. Assumes nothing.
use mathlib.Core.Path.{◌≡◌, sym, ap, subst, ◌∙◌}
use mathlib.Core.Logic.{◌⊎◌, inl, inr}
use mathlib.Core.Bool.{Bool, true, false, not, ◌&&◌, false≢true}
use Prim.Native.Nat.{ℕ, zero, suc, ◌+◌, ◌-◌, ◌*◌, ◌≤◌, ◌<◌, zero-le}
use native.Mathlib.Nat.{le_refl, le_trans, le_of_eq, mul_comm, mul-le-mul_right}
use native.Mathlib.Omega.{arith}
use lib.Dec.{T, ltb, leb, ltb→lt, lt→ltb, nltb→le, leb→le}
use lib.Signed.{lt_z, le_z}
use lib.IntN.{ℤ, pos, negsuc, neg_ℤ, nat_abs, ◌+ℤ◌, ◌-ℤ◌, ◌*ℤ◌, *ℤ_comm}
use lib.Ieee.Fits.{and_l, and_r}
use borrow.Author.Tests.{leb-true, leb-false, le-leb}
use Rattle.integers.specs.Distance.{Within, same, is_within}
use Rattle.integers.proofs.Tests.{both}
use Rattle.integers.proofs.Parts.{plus, minus, Is, plus_neg, minus_neg, add_is, sub_is_parts, mul_is, abs_is, abs_neg, abs_mul, parts_le, ext}

-- ---- the order
abbrev pub Le : ℤ → ℤ → Type 0
Le a b = plus a + minus b ≤ plus b + minus a

abbrev pub Lt : ℤ → ℤ → Type 0
Lt a b = plus a + minus b < plus b + minus a

-- ---- |a − b| ≤ e
pub record Near (a b : ℤ) (e : ℕ) : Type 0 where
  pub above : plus a + minus b ≤ plus b + minus a + e
  pub below : plus b + minus a ≤ plus a + minus b + e

pub near→within : {a b : ℤ} {e : ℕ} → Near a b e → Within a b e
near→within {a} {b} {e} h =
    let s = sub_is_parts a b in
    omega (arith, abs_is (a -ℤ b), parts_le (a -ℤ b) e (omega arith) (omega arith))

pub within→near : {a b : ℤ} {e : ℕ} → Within a b e → Near a b e
within→near {a} {b} {e} h =
    let s = sub_is_parts a b in
    let t = abs_is (a -ℤ b) in
    record { above = omega arith; below = omega arith }

pub near_refl : (a : ℤ) → Near a a 0
near_refl a = record { above = omega arith; below = omega arith }

pub near_wider : {a b : ℤ} {e d : ℕ} → e ≤ d → Near a b e → Near a b d
near_wider l h = record { above = omega arith; below = omega arith }

pub near_trans : {a b c : ℤ} {e d : ℕ} → Near a b e → Near b c d → Near a c (e + d)
near_trans h k = record { above = omega arith; below = omega arith }

pub near_add : {a b c d : ℤ} {e e' : ℕ} → Near a b e → Near c d e' → Near (a +ℤ c) (b +ℤ d) (e + e')
near_add {a} {b} {c} {d} h k =
    let x = add_is a c in
    let y = add_is b d in
    record { above = omega arith; below = omega arith }

pub near_sub : {a b c d : ℤ} {e e' : ℕ} → Near a b e → Near c d e' → Near (a -ℤ c) (b -ℤ d) (e + e')
near_sub {a} {b} {c} {d} h k =
    let x = sub_is_parts a c in
    let y = sub_is_parts b d in
    record { above = omega arith; below = omega arith }

-- ---- distance of two integers
pub distance_sym : (x y : ℤ) → nat_abs (x -ℤ y) ≡ nat_abs (y -ℤ x)
distance_sym x y =
    let z = y -ℤ x in
    ap nat_abs (ext (x -ℤ y) (neg_ℤ z) (omega (arith, sub_is_parts x y, sub_is_parts y x, plus_neg z, minus_neg z))) ∙ abs_neg z

-- distance of x from a lower bound
pub above-is : (low x : ℤ) → Le low x → nat_abs (x -ℤ low) + (plus low + minus x) ≡ plus x + minus low
above-is low x h =
    let z = x -ℤ low in
    let s = sub_is_parts x low in
    let a = abs_is z in
    let none : plus z + minus z ≤ plus z - minus z = parts_le z (plus z - minus z) (omega arith) (omega arith) in
    omega arith

-- ---- multiples
pub scale_is : (a : ℤ) (w : ℕ) → Is (a *ℤ pos w) (plus a * w) (minus a * w)
unfolding plus minus
scale_is a w = omega (arith, mul_is a (pos w))

pub scale_add : (w : ℕ) (a b : ℤ) → (a +ℤ b) *ℤ pos w ≡ a *ℤ pos w +ℤ b *ℤ pos w
scale_add w a b =
    let t = ap (λ (n : ℕ). n * w) (add_is a b) in
    ext ((a +ℤ b) *ℤ pos w) (a *ℤ pos w +ℤ b *ℤ pos w)
    (omega (arith, scale_is (a +ℤ b) w, scale_is a w, scale_is b w, add_is (a *ℤ pos w) (b *ℤ pos w)))

-- ---- products
pub sub-mul : (a b c : ℤ) → (a -ℤ b) *ℤ c ≡ a *ℤ c -ℤ b *ℤ c
sub-mul a b c =
    let s = sub_is_parts a b in
    let p = ap (λ (n : ℕ). n * plus c) s in
    let q = ap (λ (n : ℕ). n * minus c) s in
    ext ((a -ℤ b) *ℤ c) (a *ℤ c -ℤ b *ℤ c)
    (omega (arith, p, q, mul_is (a -ℤ b) c, mul_is a c, mul_is b c, sub_is_parts (a *ℤ c) (b *ℤ c)))

pub near_mul_right : (c : ℤ) {a b : ℤ} {e : ℕ} → Near a b e → Near (a *ℤ c) (b *ℤ c) (e * nat_abs c)
near_mul_right c {a} {b} {e} h =
    within→near (le_trans (le_of_eq (ap nat_abs (sym (sub-mul a b c)) ∙ abs_mul (a -ℤ b) c)) (mul-le-mul_right (nat_abs c) (near→within h)))

pub near_mul_left : (w : ℤ) {a b : ℤ} {e : ℕ} → Near a b e → Near (w *ℤ a) (w *ℤ b) (nat_abs w * e)
near_mul_left w {a} {b} {e} h = rw (*ℤ_comm w a, *ℤ_comm w b, mul_comm (nat_abs w) e) (near_mul_right w h)

pub near_scale : (w : ℕ) {a b : ℤ} {e : ℕ} → Near a b e → Near (a *ℤ pos w) (b *ℤ pos w) (e * w)
near_scale w h = near_mul_right (pos w) h

-- ---- the order, as a program tests it
pub lt_z→Lt : (a b : ℤ) → T (lt_z a b) → Lt a b
unfolding plus minus
lt_z→Lt (pos a) (pos b) h = omega (arith, ltb→lt a b h)
lt_z→Lt (pos a) (negsuc b) h = absurd h
lt_z→Lt (negsuc a) (pos b) h = omega arith
lt_z→Lt (negsuc a) (negsuc b) h = omega (arith, ltb→lt b a h)

pub Lt→ltZ : (a b : ℤ) → Lt a b → T (lt_z a b)
unfolding plus minus
Lt→ltZ (pos a) (pos b) h = lt→ltb a b (omega arith)
Lt→ltZ (pos a) (negsuc b) h = absurd (omega arith)
Lt→ltZ (negsuc a) (pos b) h = tt
Lt→ltZ (negsuc a) (negsuc b) h = lt→ltb b a (omega arith)

pub le_z→Le : (a b : ℤ) → le_z a b ≡ true → Le a b
unfolding plus minus
le_z→Le (pos a) (pos b) e = omega (arith, leb-true a b e)
le_z→Le (pos a) (negsuc b) e = absurd (false≢true e)
le_z→Le (negsuc a) (pos b) e = omega arith
le_z→Le (negsuc a) (negsuc b) e = omega (arith, leb-true b a e)

pub nle_z→Le : (a b : ℤ) → le_z a b ≡ false → Le b a
unfolding plus minus
nle_z→Le (pos a) (pos b) e = omega (arith, leb-false a b e)
nle_z→Le (pos a) (negsuc b) e = omega arith
nle_z→Le (negsuc a) (pos b) e = absurd (false≢true (sym e))
nle_z→Le (negsuc a) (negsuc b) e = omega (arith, leb-false b a e)

pub lt_or_le : (a b : ℕ) → (a < b) ⊎ (b ≤ a)
lt_or_le a b = go (ltb a b) (ltb→lt a b) (nltb→le a b)
  where
    go : (t : Bool) → (T t → a < b) → (T (not t) → b ≤ a) → (a < b) ⊎ (b ≤ a)
    go true l m = inl (l tt)
    go false l m = inr (m tt)

-- ---- equality
pub same_refl : (a : ℤ) → same a a ≡ true
same_refl (pos a) = rw (le-leb a a (le_refl a))
same_refl (negsuc a) = rw (le-leb a a (le_refl a))

each_way : (a b : ℕ) → (leb a b && leb b a) ≡ true → a ≡ b
each_way a b e = let h = both (leb a b) (leb b a) e in omega (arith, leb-true a b h.0, leb-true b a h.1)

pub same_eq : (a b : ℤ) → same a b ≡ true → a ≡ b
same_eq (pos a) (pos b) e = ap pos (each_way a b e)
same_eq (pos a) (negsuc b) e = absurd (false≢true e)
same_eq (negsuc a) (pos b) e = absurd (false≢true e)
same_eq (negsuc a) (negsuc b) e = ap negsuc (sym (each_way b a e))

-- ---- |z| ≤ m
pub within_abs : (m : ℕ) (z : ℤ) → is_within m z ≡ true → nat_abs z ≤ m
within_abs m (pos n) e = leb→le n m (and_r (le_z (neg_ℤ (pos m)) (pos n)) (leb n m) (subst T (sym e) tt))
within_abs zero (negsuc n) e = absurd (false≢true e)
within_abs (suc m) (negsuc n) e = let h = leb→le n m (and_l (leb n m) true (subst T (sym e) tt)) in omega (arith, h)

pub abs_within : (m : ℕ) (z : ℤ) → nat_abs z ≤ m → is_within m z ≡ true
abs_within zero (pos n) h = rw (le-leb n 0 h, le-leb 0 n zero-le)
abs_within (suc m) (pos n) h = le-leb n (suc m) h
abs_within zero (negsuc n) h = absurd (omega arith)
abs_within (suc m) (negsuc n) h = rw (le-leb n m (omega arith))
