-- Comparisons of finite floats are those of their values, and any two floats but NaN are ordered. Assumes nothing.
use mathlib.Core.Path.{◌≡◌, refl, sym, ap, ◌∙◌}
use mathlib.Core.Logic.{inl, inr}
use Prim.Native.Nat.{ℕ, ◌+◌, ◌*◌, ◌^◌, ◌≤◌, ◌<◌}
use native.Mathlib.Nat.{le_of_eq, eq-or-lt_of_le, eq-zero-or-pos, eq_of_mul-eq-mul_right, mul-pos, lt_of_mul-lt-mul_right, mul-lt-mul_of_pos_right}
use native.Mathlib.Omega.{arith}
use mathlib.Core.Bool.{Bool, true, false, not, ◌&&◌, ◌||◌, beq}
use lib.Dec.{T, not_T, ltb, eqb, ltb→lt, lt→ltb, nltb→le, eqb→eq}
use lib.Pow.{pow_pos}
use lib.Ieee.{Float, nan, inf, fin, Format, low, up, down, below, level, lt, le, eq, fits, is_nan}
use lib.Ieee.Fits.{down_pos, and_l, and_r, and_i, eq→eqb}
use Rattle.floats.specs.Units.{signed, value, Finite}
use Rattle.integers.proofs.Parts.{plus, minus}
use Rattle.integers.proofs.Distances.{Le, Lt}
use Rattle.floats.proofs.Values.{signed_plus, signed_minus, value-is, whole}

-- A / C is a / l, and B / C is b / l
scaled_lt : (A B C a b l : ℕ) → 0 < l → A * l ≡ a * C → B * l ≡ b * C → A < B → a < b
scaled_lt A B C a b l l₀ p q h = lt_of_mul-lt-mul_right C (omega (arith, mul-lt-mul_of_pos_right h l₀))

sums : (A B C a b l : ℕ) → A * l ≡ a * C → B * l ≡ b * C → (A + B) * l ≡ (a + b) * C
sums A B C a b l p q = omega arith

or_l : (a b : Bool) → T a → T (a || b)
or_l true b t = tt
or_l false b t = absurd t

or_r : (a b : Bool) → T b → T (a || b)
or_r true b t = tt
or_r false b t = t

or_e : (a b : Bool) (P : Type 0) → T (a || b) → (T a → P) → (T b → P) → P
or_e true b P t f g = f tt
or_e false b P t f g = g t

module _ (A B C a b l : ℕ) (C₀ : 0 < C) (l₀ : 0 < l) (p : A * l ≡ a * C) (q : B * l ≡ b * C) where
  below-is : (s t : Bool) → T (below s A t B) → Lt (signed s a) (signed t b)
  below-is false false h = omega (arith, scaled_lt A B C a b l l₀ p q (ltb→lt A B h), signed_plus a, signed_plus b)
  below-is false true h = absurd h
  below-is true false h = omega (
    arith,
    scaled_lt 0 (A + B) C 0 (a + b) l l₀ (omega arith) (sums A B C a b l p q) (ltb→lt 0 (A + B) h),
    signed_minus a,
    signed_plus b,
  )
  below-is true true h = omega (arith, scaled_lt B A C b a l l₀ q p (ltb→lt B A h), signed_minus a, signed_minus b)

  is_below : (s t : Bool) → Lt (signed s a) (signed t b) → T (below s A t B)
  is_below false false h = lt→ltb A B (scaled_lt a b l A B C C₀ (sym p) (sym q) (omega (arith, signed_plus a, signed_plus b)))
  is_below false true h = absurd (omega (arith, signed_plus a, signed_minus b))
  is_below true false h = lt→ltb 0 (A + B) (scaled_lt 0 (a + b) l 0 (A + B) C C₀ (omega arith) (sym (sums A B C a b l p q))
      (omega (arith, signed_minus a, signed_plus b)))
  is_below true true h = lt→ltb B A (scaled_lt b a l B A C C₀ (sym q) (sym p) (omega (arith, signed_minus a, signed_minus b)))

  scaled_eq : A ≡ B → a ≡ b
  scaled_eq e = eq_of_mul-eq-mul_right C C₀ a b (sym p ∙ ap (λ (x : ℕ). x * l) e ∙ q)

  eq_scaled : a ≡ b → A ≡ B
  eq_scaled e = eq_of_mul-eq-mul_right l l₀ A B (p ∙ ap (λ (x : ℕ). x * C) e ∙ sym q)

  none : A ≡ 0 → a ≡ 0
  none e = eq_of_mul-eq-mul_right C C₀ a 0 (sym p ∙ ap (λ (x : ℕ). x * l) e ∙ omega arith)

  none_back : a ≡ 0 → A ≡ 0
  none_back e = eq_of_mul-eq-mul_right l l₀ A 0 (p ∙ ap (λ (x : ℕ). x * C) e ∙ omega arith)

  level_is : (s t : Bool) → T (level s A t B) → plus (signed s a) + minus (signed t b) ≡ plus (signed t b) + minus (signed s a)
  level_is s t h = go s t (scaled_eq (eqb→eq A B (and_l (eqb A B) (beq s t || eqb A 0) h))) (and_r (eqb A B) (beq s t || eqb A 0) h)
    where
      go : (s t : Bool) → a ≡ b → T (beq s t || eqb A 0) → plus (signed s a) + minus (signed t b) ≡ plus (signed t b) + minus (signed s a)
      go false false e h = omega (arith, signed_plus a, signed_plus b)
      go true true e h = omega (arith, signed_minus a, signed_minus b)
      go false true e h = omega (arith, signed_plus a, signed_minus b, none (eqb→eq A 0 h))
      go true false e h = omega (arith, signed_minus a, signed_plus b, none (eqb→eq A 0 h))

  is_level : (s t : Bool) → plus (signed s a) + minus (signed t b) ≡ plus (signed t b) + minus (signed s a) → T (level s A t B)
  is_level false false h = and_i (eqb A B) true (eq→eqb (eq_scaled (omega (arith, signed_plus a, signed_plus b)))) tt
  is_level true true h = and_i (eqb A B) true (eq→eqb (eq_scaled (omega (arith, signed_minus a, signed_minus b)))) tt
  is_level false true h = and_i (eqb A B) (eqb A 0) (eq→eqb (eq_scaled (omega (arith, signed_plus a, signed_minus b))))
      (eq→eqb (none_back (omega (arith, signed_plus a, signed_minus b))))
  is_level true false h = and_i (eqb A B) (eqb A 0) (eq→eqb (eq_scaled (omega (arith, signed_minus a, signed_plus b))))
      (eq→eqb (none_back (omega (arith, signed_minus a, signed_plus b))))

-- ---- two floats
record Pair (f : Format) (x y : Float) : Type 0 where
  lt→ : T (lt x y) → Lt (value f x) (value f y)
  →lt : Lt (value f x) (value f y) → T (lt x y)
  eq→ : T (eq x y) → plus (value f x) + minus (value f y) ≡ plus (value f y) + minus (value f x)
  →eq : plus (value f x) + minus (value f y) ≡ plus (value f y) + minus (value f x) → T (eq x y)

pair : (f : Format) (x y : Float) → T (fits f x) → T (fits f y) → Finite x → Finite y → Pair f x y
unfolding lt eq
pair f nan y fx fy x₀ y₀ = absurd x₀
pair f (inf s) y fx fy x₀ y₀ = absurd x₀
pair f (fin s m e) nan fx fy x₀ y₀ = absurd y₀
pair f (fin s m e) (inf t) fx fy x₀ y₀ = absurd y₀
pair f (fin s m e) (fin t n d) fx fy x₀ y₀ =
    let v = whole f (fin s m e) fx x₀ in
    let w = whole f (fin t n d) fy y₀ in
    let a = v.a in
    let b = w.a in
    let l = 2 ^ low f in
    let A = m * up e * down d in
    let B = n * up d * down e in
    let C = down e * down d in
    let C₀ : 0 < C = mul-pos (down_pos e) (down_pos d) in
    let l₀ = pow_pos (low f) in
    let p : A * l ≡ a * C = let g = ap (λ (x : ℕ). x * down d) v.has.1 in omega arith in
    let q : B * l ≡ b * C = let g = ap (λ (x : ℕ). x * down e) w.has.1 in omega arith in
    let ex = value-is f (fin s m e) s a (refl, v.has.1) in
    let ey = value-is f (fin t n d) t b (refl, w.has.1) in
    record {
      lt→ = λ h. rw (ex, ey) (below-is A B C a b l C₀ l₀ p q s t h);
      →lt = λ h. is_below A B C a b l C₀ l₀ p q s t (rw (ex, ey) at h);
      eq→ = λ h. rw (ex, ey) (level_is A B C a b l C₀ l₀ p q s t h);
      →eq = λ h. is_level A B C a b l C₀ l₀ p q s t (rw (ex, ey) at h);
    }

module _ (f : Format) (x y : Float) (fx : T (fits f x)) (fy : T (fits f y)) (x₀ : Finite x) (y₀ : Finite y) where
  pub lt→Lt : T (lt x y) → Lt (value f x) (value f y)
  lt→Lt h = (pair f x y fx fy x₀ y₀).lt→ h

  pub Lt→lt : Lt (value f x) (value f y) → T (lt x y)
  Lt→lt h = (pair f x y fx fy x₀ y₀).→lt h

  pub le→Le : T (le x y) → Le (value f x) (value f y)
  unfolding le
  le→Le h =
      let k = pair f x y fx fy x₀ y₀ in
      or_e (lt x y) (eq x y) (Le (value f x) (value f y)) h (λ t. omega (arith, k.lt→ t)) (λ t. le_of_eq (k.eq→ t))

  pub Le→le : Le (value f x) (value f y) → T (le x y)
  unfolding le
  Le→le h =
      let k = pair f x y fx fy x₀ y₀ in
      elim (eq-or-lt_of_le h) [ inl e ↦ or_r (lt x y) (eq x y) (k.→eq e) | inr l ↦ or_l (lt x y) (eq x y) (k.→lt l) ]

-- ---- of any two floats but NaN, the first is less or the second is at most the first
noughts : (A B : ℕ) → A + B ≤ 0 → T (eqb B A && eqb B 0)
noughts A B h = and_i (eqb B A) (eqb B 0) (eq→eqb {a = B} {b = A} (omega arith)) (eq→eqb {a = B} {b = 0} (omega arith))

not-below : (A B : ℕ) (s t : Bool) → T (not (below s A t B)) → T (below t B s A || level t B s A)
not-below A B false false h = elim (eq-or-lt_of_le (nltb→le A B h)) [
  | inl e ↦ or_r (ltb B A) (level false B false A) (and_i (eqb B A) true (eq→eqb e) tt)
  | inr l ↦ or_l (ltb B A) (level false B false A) (lt→ltb B A l)
]
not-below A B false true h = elim (eq-zero-or-pos (B + A)) [
  | inl e ↦ or_r (ltb 0 (B + A)) (level true B false A) (noughts A B (omega arith))
  | inr l ↦ or_l (ltb 0 (B + A)) (level true B false A) (lt→ltb 0 (B + A) l)
]
not-below A B true false h = noughts A B (nltb→le 0 (A + B) h)
not-below A B true true h = elim (eq-or-lt_of_le (nltb→le B A h)) [
  | inl e ↦ or_r (ltb A B) (level true B true A) (and_i (eqb B A) true (eq→eqb (sym e)) tt)
  | inr l ↦ or_l (ltb A B) (level true B true A) (lt→ltb A B l)
]

pub not_lt→le : (x y : Float) → T (not (is_nan x)) → T (not (is_nan y)) → T (not (lt x y)) → T (le y x)
unfolding lt le is_nan
not_lt→le nan y x₀ y₀ h = absurd x₀
not_lt→le (inf s) nan x₀ y₀ h = absurd y₀
not_lt→le (inf true) (inf true) x₀ y₀ h = tt
not_lt→le (inf true) (inf false) x₀ y₀ h = absurd h
not_lt→le (inf false) (inf true) x₀ y₀ h = tt
not_lt→le (inf false) (inf false) x₀ y₀ h = tt
not_lt→le (inf true) (fin t n d) x₀ y₀ h = absurd h
not_lt→le (inf false) (fin t n d) x₀ y₀ h = tt
not_lt→le (fin s m e) nan x₀ y₀ h = absurd y₀
not_lt→le (fin s m e) (inf true) x₀ y₀ h = tt
not_lt→le (fin s m e) (inf false) x₀ y₀ h = absurd h
not_lt→le (fin s m e) (fin t n d) x₀ y₀ h = not-below (m * up e * down d) (n * up d * down e) s t h

pub not_le→lt : (x y : Float) → T (not (is_nan x)) → T (not (is_nan y)) → T (not (le x y)) → T (lt y x)
not_le→lt x y x₀ y₀ h = go (lt y x) (le x y) (not_lt→le y x y₀ x₀) h
  where
    go : (a b : Bool) → (T (not a) → T b) → T (not b) → T a
    go true b f n = tt
    go false true f n = n
    go false false f n = f tt

-- ---- less, then at most: three floats on one scale
module _ (a b c : ℕ) (p q r : ℕ) (p₀ : 0 < p) (q₀ : 0 < q) (r₀ : 0 < r) (s t u : Bool) where
  less_first : T (below s (a * q) t (b * p)) → Lt (signed s (a * q * r)) (signed t (b * p * r))
  less_first h = below-is (a * q) (b * p) 1 (a * q * r) (b * p * r) r (omega arith) r₀ (omega arith) (omega arith) s t h

  at_most_then : T (below t (b * r) u (c * q) || level t (b * r) u (c * q)) → Le (signed t (b * p * r)) (signed u (c * q * p))
  at_most_then h =
      let e : b * r * p ≡ b * p * r * 1 = omega arith in
      let f : c * q * p ≡ c * q * p * 1 = omega arith in
      or_e (below t (b * r) u (c * q)) (level t (b * r) u (c * q)) (Le (signed t (b * p * r)) (signed u (c * q * p))) h
      (λ l. omega (arith, below-is (b * r) (c * q) 1 (b * p * r) (c * q * p) p (omega arith) p₀ e f t u l))
      (λ l. le_of_eq (level_is (b * r) (c * q) 1 (b * p * r) (c * q * p) p (omega arith) p₀ e f t u l))

  less : Lt (signed s (a * q * r)) (signed u (c * q * p)) → T (below s (a * r) u (c * p))
  less h =
      let e : a * r * q ≡ a * q * r * 1 = omega arith in
      let f : c * p * q ≡ c * q * p * 1 = omega arith in
      is_below (a * r) (c * p) 1 (a * q * r) (c * q * p) q (omega arith) q₀ e f s u h

pub lt_le_trans : (x y z : Float) → T (lt x y) → T (le y z) → T (lt x z)
unfolding lt le eq
lt_le_trans nan y z h k = absurd h
lt_le_trans (inf false) nan z h k = absurd h
lt_le_trans (inf false) (inf t) z h k = absurd h
lt_le_trans (inf false) (fin t n d) z h k = absurd h
lt_le_trans (inf true) nan z h k = absurd h
lt_le_trans (inf true) (inf true) z h k = absurd h
lt_le_trans (inf true) (inf false) nan h k = absurd k
lt_le_trans (inf true) (inf false) (inf true) h k = absurd k
lt_le_trans (inf true) (inf false) (inf false) h k = tt
lt_le_trans (inf true) (inf false) (fin u l g) h k = absurd k
lt_le_trans (inf true) (fin t n d) nan h k = absurd k
lt_le_trans (inf true) (fin t n d) (inf true) h k = absurd k
lt_le_trans (inf true) (fin t n d) (inf false) h k = tt
lt_le_trans (inf true) (fin t n d) (fin u l g) h k = tt
lt_le_trans (fin s m e) nan z h k = absurd h
lt_le_trans (fin s m e) (inf true) z h k = absurd h
lt_le_trans (fin s m e) (inf false) nan h k = absurd k
lt_le_trans (fin s m e) (inf false) (inf true) h k = absurd k
lt_le_trans (fin s m e) (inf false) (inf false) h k = tt
lt_le_trans (fin s m e) (inf false) (fin u l g) h k = absurd k
lt_le_trans (fin s m e) (fin t n d) nan h k = absurd k
lt_le_trans (fin s m e) (fin t n d) (inf true) h k = absurd k
lt_le_trans (fin s m e) (fin t n d) (inf false) h k = tt
lt_le_trans (fin s m e) (fin t n d) (fin u l g) h k =
    let a = m * up e in
    let b = n * up d in
    let c = l * up g in
    let first = less_first a b c (down e) (down d) (down g) (down_pos e) (down_pos d) (down_pos g) s t u h in
    let then = at_most_then a b c (down e) (down d) (down g) (down_pos e) (down_pos d) (down_pos g) s t u k in
    less a b c (down e) (down d) (down g) (down_pos e) (down_pos d) (down_pos g) s t u (omega (arith, first, then))

-- ---- equal floats are not less
level_not_below : (A B : ℕ) (s t : Bool) → T (level s A t B) → T (not (below s A t B))
level_not_below A B s t h =
    go s t (eqb→eq A B (and_l (eqb A B) (beq s t || eqb A 0) h)) (and_r (eqb A B) (beq s t || eqb A 0) h)
  where
    go : (s t : Bool) → A ≡ B → T (beq s t || eqb A 0) → T (not (below s A t B))
    go false false e z = not_T (ltb A B) (λ l. absurd (omega (arith, e, ltb→lt A B l)))
    go false true e z = tt
    go true false e z = not_T (ltb 0 (A + B)) (λ l. absurd (omega (arith, e, ltb→lt 0 (A + B) l, eqb→eq A 0 z)))
    go true true e z = not_T (ltb B A) (λ l. absurd (omega (arith, e, ltb→lt B A l)))

pub eq_not_lt : (x y : Float) → T (eq x y) → T (not (lt x y))
unfolding lt eq
eq_not_lt nan y h = absurd h
eq_not_lt (inf s) nan h = absurd h
eq_not_lt (inf true) (inf true) h = tt
eq_not_lt (inf true) (inf false) h = absurd h
eq_not_lt (inf false) (inf t) h = tt
eq_not_lt (inf s) (fin t n d) h = absurd h
eq_not_lt (fin s m e) nan h = absurd h
eq_not_lt (fin s m e) (inf t) h = absurd h
eq_not_lt (fin s m e) (fin t n d) h = level_not_below (m * up e * down d) (n * up d * down e) s t h

pub finite_not_nan : (x : Float) → Finite x → T (not (is_nan x))
unfolding is_nan
finite_not_nan nan h = h
finite_not_nan (inf s) h = tt
finite_not_nan (fin s m e) h = tt
