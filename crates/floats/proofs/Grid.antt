-- `round` has a rounding error of at most half a unit in the last place, stated in integers with both sides
-- doubled. Assumes nothing.
use mathlib.Core.Path.{◌≡◌, sym, ap, ◌∙◌, subst}
use mathlib.Core.Logic.{inl, inr}
use Prim.Native.Nat.{ℕ, zero, suc, ◌+◌, ◌-◌, ◌*◌, ◌/◌, ◌%◌, ◌^◌, ◌≤◌, ◌<◌, compare, zero-le, suc-le-suc, Ordering}
use native.Mathlib.Nat.{le_trans, le_of_lt, lt_of_le_of_lt, le_of_suc-le-suc, mul_assoc, div-div-eq-div-mul, le-div_iff_mul-le, le_of_eq, eq-or-lt_of_le}
use native.Mathlib.Nat.{mul_comm, mul-le-mul_right, mul-le-mul_left, mul-pos, le_of_mul-le-mul_right, div-add-mod', mod-lt, pow-suc, div-lt_iff_lt-mul}
use native.Mathlib.Omega.{arith}
use mathlib.Core.Bool.{Bool, true, false, not}
use lib.Dec.{T, is_le, compare_is_eq, leb, leb→le, nleb→lt, eqb→eq}
use lib.Pow.{pow-add, pow_pos, pow_mono, shl_lt}
use lib.Ieee.{Float, Format, prec, emax, low, size, nearest, round}
use lib.Ieee.Digits.{size-le, size_reaches, back}
use lib.Ieee.Fits.{round_is, two}
use lib.Ieee.Exact.{HasValue, units_val}
use lib.Ieee.Nearest.{closest, closest_mono, nearest-ge}
use lib.Ieee.Order.{drop, kept}
use lib.Ieee.Scale.{grid, overflow}

-- |x − y| ≤ u / 2
pub record Half (x y u : ℕ) : Type 0 where
  pub above : x * 2 ≤ y * 2 + u
  pub below : y * 2 ≤ x * 2 + u

-- ---- the nearest integer
tie : (q u r n b : ℕ) → q * u + r ≡ n → r * 2 ≡ u → b < 2 → Half ((q + b) * u) n u
tie q u r n zero e h l = record { above = omega arith; below = omega arith }
tie q u r n (suc zero) e h l = record { above = omega arith; below = omega arith }
tie q u r n (suc (suc b)) e h l = absurd (omega arith)

parity : (q : ℕ) → q % 2 < 2
parity q = omega arith

nearest_half : (q u r n : ℕ) (o : Ordering) → q * u + r ≡ n → r < u → (T (is_le o) → r * 2 ≤ u) → (T (not (is_le o)) → u < r * 2)
    → (T (compare_is_eq o) → r * 2 ≡ u) → Half (nearest q o * u) n u
nearest_half q u r n Ordering.lt e l a b c = let h : r * 2 ≤ u = a tt in record { above = omega arith; below = omega arith }
nearest_half q u r n Ordering.eq e l a b c = tie q u r n (q % 2) e (c tt) (parity q)
nearest_half q u r n Ordering.gt e l a b c = let h : u < r * 2 = b tt in record { above = omega arith; below = omega arith }

closest_half : (n u : ℕ) → 0 < u → Half (closest n u * u) n u
closest_half n u U =
    nearest_half (n / u) u (n % u) n (compare (n % u * 2) u) (div-add-mod' n u) (mod-lt n U)
    (leb→le (n % u * 2) u) (nleb→lt (n % u * 2) u) (eqb→eq (n % u * 2) u)

-- exact division
closest_exact : (q u : ℕ) → 0 < u → closest (q * u) u ≡ q
closest_exact q u U =
    let h = closest_half (q * u) u U in
    let g = closest (q * u) u in
    let a : g * 2 ≤ q * 2 + 1 = le_of_mul-le-mul_right {k = u} (omega (arith, h.above)) U in
    let b : q * 2 ≤ g * 2 + 1 = le_of_mul-le-mul_right {k = u} (omega (arith, h.below)) U in
    omega arith

-- ---- with the digits that a format of p digits drops
fewer : (z p K : ℕ) → z ≤ K → z - p ≤ K - p
fewer z p K h = omega arith

fewer_suc : (z p K : ℕ) → 2 ≤ p → z ≤ suc K → z - p ≤ K
fewer_suc z p K P h = omega arith

half_wider : {x y u v : ℕ} → u ≤ v → Half x y u → Half x y v
half_wider l h = record { above = omega (arith, h.above); below = omega (arith, h.below) }

-- n / c rounded is a multiple of 2 ^ drop, within half of that of n / c
kept_half : (p n c : ℕ) → 0 < c → Half (kept p n c * 2 ^ drop p n c * c) n (c * 2 ^ drop p n c)
kept_half p n c C =
    let k = drop p n c in
    let h = closest_half n (c * 2 ^ k) (mul-pos C (pow_pos k)) in
    record { above = omega (arith, h.above); below = omega (arith, h.below) }

-- n / c is at most 2 ^ K, so the last place is at most 2 ^ (K - p)
kept_under : (p n c K : ℕ) → 2 ≤ p → 0 < c → n ≤ c * 2 ^ K → Half (kept p n c * 2 ^ drop p n c * c) n (c * 2 ^ (K - p))
kept_under p n c K P C h = elim (eq-or-lt_of_le h) [ inl e ↦ exactly e | inr l ↦ less l ]
  where
    less : n < c * 2 ^ K → Half (kept p n c * 2 ^ drop p n c * c) n (c * 2 ^ (K - p))
    less l =
        let s : size (n / c) ≤ K = size-le (n / c) K ((div-lt_iff_lt-mul C).1 (subst (λ (x : ℕ). n < x) (mul_comm c (2 ^ K)) l)) in
        half_wider (mul-le-mul_left c (pow_mono (fewer (size (n / c)) p K s))) (kept_half p n c C)

    exactly : n ≡ c * 2 ^ K → Half (kept p n c * 2 ^ drop p n c * c) n (c * 2 ^ (K - p))
    exactly e =
        let k = drop p n c in
        let below : n < 2 ^ suc K * c = subst (λ (x : ℕ). x < 2 ^ suc K * c) (sym e)
        (omega (arith, mul-pos C (pow_pos K), ap (λ (x : ℕ). x * c) (pow-suc 2 K))) in
        let l : k ≤ K = fewer_suc (size (n / c)) p K P (size-le (n / c) (suc K) ((div-lt_iff_lt-mul C).1 below)) in
        let w : 2 ^ (K - k) * 2 ^ k ≡ 2 ^ K = sym (pow-add 2 (K - k) k) ∙ ap (λ (x : ℕ). 2 ^ x) (back K k l) in
        let m : n ≡ 2 ^ (K - k) * (c * 2 ^ k) = e ∙ ap (λ (x : ℕ). c * x) (sym w) ∙ omega arith in
        let g : kept p n c ≡ 2 ^ (K - k) = ap (λ (x : ℕ). closest x (c * 2 ^ k)) m ∙ closest_exact (2 ^ (K - k)) (c * 2 ^ k) (mul-pos C (pow_pos k)) in
        let z : kept p n c * 2 ^ k * c ≡ n = ap (λ (x : ℕ). x * 2 ^ k * c) g ∙ sym (m ∙ omega arith) in
        record { above = omega arith; below = omega arith }

-- ---- rounding does not cross m = c × 2 ^ j with c of at most p digits: what is at most m is rounded to at most m, and what is
-- at least m to at least m
over-size : (p j z : ℕ) → z ≤ p + j → z - p ≤ j
over-size p j z h = omega arith

multiple : (c j k : ℕ) → k ≤ j → c * 2 ^ (j - k) * 2 ^ k ≡ c * 2 ^ j
multiple c j k l = mul_assoc c (2 ^ (j - k)) (2 ^ k) ∙ ap (λ (x : ℕ). c * x) (sym (pow-add 2 (j - k) k) ∙ ap (λ (x : ℕ). 2 ^ x) (back j k l))

kept-le : (p n d c j : ℕ) → 0 < d → c < 2 ^ p → n ≤ d * (c * 2 ^ j) → kept p n d * 2 ^ drop p n d ≤ c * 2 ^ j
kept-le p n d c j D c₀ h =
    let k = drop p n d in
    let u = d * 2 ^ k in
    let U : 0 < u = mul-pos D (pow_pos k) in
    let m : n / d ≤ c * 2 ^ j = le_of_suc-le-suc ((div-lt_iff_lt-mul D).1 (omega arith)) in
    let l : k ≤ j = over-size p j (size (n / d)) (size-le (n / d) (p + j) (lt_of_le_of_lt m (shl_lt p j c₀))) in
    let e = multiple c j k l in
    let v : n ≤ c * 2 ^ (j - k) * u = le_trans h (le_of_eq (ap (λ (x : ℕ). d * x) (sym e) ∙ omega arith)) in
    let a : kept p n d ≤ c * 2 ^ (j - k) = le_trans (closest_mono n u (c * 2 ^ (j - k) * u) u U U (mul-le-mul_right u v))
    (le_of_eq (closest_exact (c * 2 ^ (j - k)) u U)) in
    le_trans (mul-le-mul_right (2 ^ k) a) (le_of_eq e)

all_in_use : (z p : ℕ) → 2 ≤ p → 0 < z - p → p - 1 + (z - p) < z
all_in_use z p P h = omega arith

-- if digits are dropped, the kept number has p of them
kept_full : (p n d : ℕ) → 2 ≤ p → 0 < drop p n d → 2 ^ (p - 1) ≤ kept p n d
kept_full p n d P K =
    let k = drop p n d in
    let u = d * 2 ^ k in
    let w = n / d in
    let a : 2 ^ (p - 1) * 2 ^ k ≤ w = le_trans (le_of_eq (sym (pow-add 2 (p - 1) k))) (size_reaches w (p - 1 + k) (all_in_use (size w) p P K)) in
    le_trans (subst (λ (x : ℕ). 2 ^ (p - 1) ≤ x) (div-div-eq-div-mul n d (2 ^ k)) ((le-div_iff_mul-le (pow_pos k)).1 a))
    (nearest-ge (n / u) (compare (n % u * 2) u))

higher : (p j k : ℕ) → 2 ≤ p → j < k → p + j ≤ p - 1 + k
higher p j k P h = omega arith

kept-ge : (p n d c j : ℕ) → 2 ≤ p → 0 < d → c < 2 ^ p → d * (c * 2 ^ j) ≤ n → c * 2 ^ j ≤ kept p n d * 2 ^ drop p n d
kept-ge p n d c j P D c₀ h = go (leb (drop p n d) j) (leb→le (drop p n d) j) (nleb→lt (drop p n d) j)
  where
    go : (b : Bool) → (T b → drop p n d ≤ j) → (T (not b) → j < drop p n d) → c * 2 ^ j ≤ kept p n d * 2 ^ drop p n d
    go true y x =
        let k = drop p n d in
        let u = d * 2 ^ k in
        let U : 0 < u = mul-pos D (pow_pos k) in
        let e = multiple c j k (y tt) in
        let v : c * 2 ^ (j - k) * u ≤ n = le_trans (le_of_eq (omega arith ∙ ap (λ (x : ℕ). d * x) e)) h in
        let a : c * 2 ^ (j - k) ≤ kept p n d = le_trans (le_of_eq (sym (closest_exact (c * 2 ^ (j - k)) u U)))
        (closest_mono (c * 2 ^ (j - k) * u) u n u U U (mul-le-mul_right u v)) in
        le_trans (le_of_eq (sym e)) (mul-le-mul_right (2 ^ k) a)
    go false y x =
        let k = drop p n d in
        le_trans (le_of_lt (shl_lt p j c₀))
        (le_trans (pow_mono (higher p j k P (x tt)))
        (le_trans (le_of_eq (pow-add 2 (p - 1) k)) (mul-le-mul_right (2 ^ k) (kept_full p n d P (le_trans (suc-le-suc zero-le) (x tt))))))

-- ---- `round`
double : (K r : ℕ) → suc K ≤ r → 2 ^ K * 2 ≤ 2 ^ r
double K r h = le_trans (le_of_eq (sym (pow-suc 2 K))) (pow_mono h)

shrink : (K p : ℕ) → K - p ≤ K
shrink K p = omega arith

-- `round` of a fraction that is q / w units: g units, with |g − q / w| ≤ ulp / 2
pub record Rounded (f : Format) (s : Bool) (q w ulp : ℕ) (r : Float) : Type 0 where
  pub g : ℕ
  pub has : HasValue r s g (2 ^ low f)
  pub half : Half (g * w) q (w * ulp)
  pub under : (c j : ℕ) → c < 2 ^ prec f → q ≤ w * (c * 2 ^ j) → g ≤ c * 2 ^ j
  pub over : (c j : ℕ) → c < 2 ^ prec f → w * (c * 2 ^ j) ≤ q → c * 2 ^ j ≤ g

pub round_half : (f : Format) (s : Bool) (N C q w K : ℕ) → 0 < C → 0 < w → N * 2 ^ low f * w ≡ q * C → q ≤ w * 2 ^ K → suc K ≤ low f + suc (emax f)
    → Rounded f s q w (2 ^ (K - prec f)) (round f s N C)
round_half f s N C q w K C₀ w₀ e h o =
    let p = prec f in
    let n = N * 2 ^ low f in
    let k = drop p n C in
    let u = 2 ^ (K - p) in
    let under : n ≤ C * 2 ^ K = le_of_mul-le-mul_right {k = w} (omega (arith, e, mul-le-mul_right C h)) w₀ in
    let near = kept_under p n C K (two f) C₀ under in
    let j = grid f N C in
    let a : j * w * 2 ≤ q * 2 + w * u = le_of_mul-le-mul_right {k = C} (omega (arith, e, mul-le-mul_right w near.above)) C₀ in
    let b : q * 2 ≤ j * w * 2 + w * u = le_of_mul-le-mul_right {k = C} (omega (arith, e, mul-le-mul_right w near.below)) C₀ in
    let small : u ≤ 2 ^ K = pow_mono (shrink K p) in
    let c : j * 2 ≤ 2 ^ K * 3 = le_of_mul-le-mul_right {k = w} (omega (arith, mul-le-mul_right w small)) w₀ in
    let fine : j < overflow f = omega (arith, double K (low f + suc (emax f)) o, pow_pos K) in
    record {
      g = j;
      has = subst (λ (z : Float). HasValue z s j (2 ^ low f)) (sym (round_is f s N C)) (units_val f s (kept p n C) k fine);
      half = record { above = a; below = b };
      under = λ c i c₀ l. kept-le p n C c i C₀ c₀ (le_of_mul-le-mul_right {k = w} (omega (arith, e, mul-le-mul_right C l)) w₀);
      over = λ c i c₀ l. kept-ge p n C c i (two f) C₀ c₀ (le_of_mul-le-mul_right {k = w} (omega (arith, e, mul-le-mul_right C l)) w₀);
    }
