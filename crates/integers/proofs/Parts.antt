-- Integers by their two parts, each a natural number, so that `omega` reads them: z is `plus z − minus z`, and one of the two is 0.
-- Each operation on ℤ is an equation between the parts, with no subtraction in it. Assumes nothing.
use mathlib.Core.Path.{◌≡◌, refl, ap}
use Prim.Native.Nat.{ℕ, zero, suc, ◌+◌, ◌-◌, ◌*◌, ◌^◌, ◌≤◌, ◌<◌}
use native.Mathlib.Nat.{mul-le-mul_right}
use native.Mathlib.Omega.{arith}
use mathlib.Core.Bool.{Bool, true, false, not, cond}
use lib.IntN.{ℤ, pos, negsuc, neg_ℤ, nat_abs, sub_ℕ, ◌+ℤ◌, ◌-ℤ◌, ◌*ℤ◌}
use lib.Dec.{T, ltb, ltb→lt, nltb→le}
use mir.Syntax.{w16, w32}
use mir.Val.{SFits}

unfoldable pub plus : ℤ → ℕ
plus (pos n) = n
plus (negsuc n) = 0

unfoldable pub minus : ℤ → ℕ
minus (pos n) = 0
minus (negsuc n) = suc n

-- ---- the operations
pub plus_neg : (z : ℤ) → plus (neg_ℤ z) ≡ minus z
unfolding plus minus
plus_neg (pos zero) = refl
plus_neg (pos (suc n)) = refl
plus_neg (negsuc n) = refl

pub minus_neg : (z : ℤ) → minus (neg_ℤ z) ≡ plus z
unfolding plus minus
minus_neg (pos zero) = refl
minus_neg (pos (suc n)) = refl
minus_neg (negsuc n) = refl

-- z is a - b
abbrev pub Is : ℤ → ℕ → ℕ → Type 0
Is z a b = plus z + b ≡ minus z + a

sub_is : (a b : ℕ) → Is (sub_ℕ a b) a b
unfolding plus minus
sub_is a b = go (ltb a b) (ltb→lt a b) (nltb→le a b)
  where
    go : (c : Bool) → (T c → a < b) → (T (not c) → b ≤ a) → Is (cond c (negsuc (b - suc a)) (pos (a - b))) a b
    go true h k = let l : a < b = h tt in omega arith
    go false h k = let l : b ≤ a = k tt in omega arith

pub add_is : (x y : ℤ) → Is (x +ℤ y) (plus x + plus y) (minus x + minus y)
unfolding plus minus
add_is (pos a) (pos b) = omega arith
add_is (pos a) (negsuc b) = omega (arith, sub_is a (suc b))
add_is (negsuc a) (pos b) = omega (arith, sub_is b (suc a))
add_is (negsuc a) (negsuc b) = omega arith

pub sub_is_parts : (x y : ℤ) → Is (x -ℤ y) (plus x + minus y) (minus x + plus y)
sub_is_parts x y = omega (arith, add_is x (neg_ℤ y), plus_neg y, minus_neg y)

neg_pos : (n : ℕ) → Is (neg_ℤ (pos n)) 0 n
unfolding plus minus
neg_pos zero = refl
neg_pos (suc n) = omega arith

pub mul_is : (x y : ℤ) → Is (x *ℤ y) (plus x * plus y + minus x * minus y) (plus x * minus y + minus x * plus y)
unfolding plus minus
mul_is (pos a) (pos b) = omega arith
mul_is (pos a) (negsuc b) = omega (arith, neg_pos (a * suc b))
mul_is (negsuc a) (pos b) = omega (arith, neg_pos (suc a * b))
mul_is (negsuc a) (negsuc b) = omega arith

-- ---- absolute value
pub abs_is : (z : ℤ) → nat_abs z ≡ plus z + minus z
unfolding plus minus
abs_is (pos n) = omega arith
abs_is (negsuc n) = omega arith

-- one part is 0: the absolute value is at most e if each part is within e of the other
pub parts_le : (z : ℤ) (e : ℕ) → plus z ≤ minus z + e → minus z ≤ plus z + e → plus z + minus z ≤ e
unfolding plus minus
parts_le (pos n) e h k = omega arith
parts_le (negsuc n) e h k = omega arith

pub no_plus : (z : ℤ) → plus z ≤ minus z → plus z ≡ 0
no_plus z h = omega (arith, parts_le z (minus z) (omega arith) (omega arith))

pub no_minus : (z : ℤ) → minus z ≤ plus z → minus z ≡ 0
no_minus z h = omega (arith, parts_le z (plus z) (omega arith) (omega arith))

pub abs_add : (a b : ℤ) → nat_abs (a +ℤ b) ≤ nat_abs a + nat_abs b
abs_add a b =
    let x = add_is a b in
    let p = abs_is a in
    let q = abs_is b in
    omega (arith, abs_is (a +ℤ b), parts_le (a +ℤ b) (nat_abs a + nat_abs b) (omega arith) (omega arith))

pub abs_neg : (a : ℤ) → nat_abs (neg_ℤ a) ≡ nat_abs a
abs_neg a = omega (arith, abs_is a, abs_is (neg_ℤ a), plus_neg a, minus_neg a)

pub abs_sub : (a b : ℤ) → nat_abs (a -ℤ b) ≤ nat_abs a + nat_abs b
abs_sub a b = omega (arith, abs_add a (neg_ℤ b), abs_neg b)

-- bounds of the signed widths
pub small-fits : (z : ℤ) → nat_abs z < 2 ^ 31 → SFits w32 z
small-fits (pos n) h = record { sfits = h }
small-fits (negsuc n) h = record { sfits = omega arith }

pub fits-small : (z : ℤ) → SFits w16 z → nat_abs z ≤ 2 ^ 15
fits-small (pos n) h = omega (arith, h.sfits)
fits-small (negsuc n) h = h.sfits

pub abs_mul : (a b : ℤ) → nat_abs (a *ℤ b) ≡ nat_abs a * nat_abs b
abs_mul (pos a) (pos b) = refl
abs_mul (pos a) (negsuc b) = abs_neg (pos (a * suc b))
abs_mul (negsuc a) (pos b) = abs_neg (pos (suc a * b))
abs_mul (negsuc a) (negsuc b) = refl

-- a factor of absolute value at most 1
pub abs_factor : (a b : ℤ) → nat_abs a ≤ 1 → nat_abs (a *ℤ b) ≤ nat_abs b
abs_factor a b h = omega (arith, abs_mul a b, mul-le-mul_right (nat_abs b) h)

-- ---- equality from the parts
pub ext : (x y : ℤ) → plus x + minus y ≡ minus x + plus y → x ≡ y
unfolding plus minus
ext (pos a) (pos b) e = ap pos (omega arith)
ext (pos a) (negsuc b) e = absurd (omega arith)
ext (negsuc a) (pos b) e = absurd (omega arith)
ext (negsuc a) (negsuc b) e = ap negsuc (omega arith)
