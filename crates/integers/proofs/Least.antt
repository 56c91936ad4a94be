-- The minimum and the maximum of f 0 to f n: bounds, attained, and exchanged by negation. Assumes nothing.
use mathlib.Core.Path.{◌≡◌, refl, sym, ap, ◌∙◌}
use mathlib.Core.Logic.{inl, inr}
use Prim.Native.Nat.{ℕ, zero, suc, ◌≤◌}
use native.Mathlib.Nat.{eq-or-lt_of_le, le_of_suc-le-suc}
use native.Mathlib.Omega.{arith}
use mathlib.Core.Bool.{Bool, true, false, cond}
use lib.IntN.{ℤ, neg_ℤ, neg_ℤ-neg_ℤ}
use lib.Signed.{le_z}
use Rattle.integers.specs.Least.{lesser, higher, least_to, greatest_to}
use Rattle.integers.proofs.Parts.{plus_neg, minus_neg, ext}
use Rattle.integers.proofs.Distances.{Le, le_z→Le, nle_z→Le}

-- ---- of two
lesser_le : (x y : ℤ) → Le (lesser x y) x × Le (lesser x y) y
lesser_le x y = go (le_z x y) refl
  where
    go : (t : Bool) → le_z x y ≡ t → Le (cond t x y) x × Le (cond t x y) y
    go true e = (omega arith, le_z→Le x y e)
    go false e = (nle_z→Le x y e, omega arith)

pub in_order : (x y : ℤ) → Le x y → (lesser x y ≡ x) × (lesser y x ≡ x)
in_order x y h = (first (le_z x y) refl, second (le_z y x) refl)
  where
    first : (t : Bool) → le_z x y ≡ t → cond t x y ≡ x
    first true e = refl
    first false e = ext y x (omega (arith, nle_z→Le x y e))

    second : (t : Bool) → le_z y x ≡ t → cond t y x ≡ x
    second true e = ext y x (omega (arith, le_z→Le y x e))
    second false e = refl

-- negation reverses the order and exchanges minimum and maximum
pub le_opposite : (x y : ℤ) → Le x y → Le (neg_ℤ y) (neg_ℤ x)
le_opposite x y h = omega (arith, plus_neg x, minus_neg x, plus_neg y, minus_neg y)

lesser_opposite : (x y : ℤ) → lesser (neg_ℤ x) (neg_ℤ y) ≡ neg_ℤ (higher x y)
lesser_opposite x y = go (le_z x y) refl
  where
    go : (t : Bool) → le_z x y ≡ t → lesser (neg_ℤ x) (neg_ℤ y) ≡ neg_ℤ (cond t y x)
    go true e = (in_order (neg_ℤ y) (neg_ℤ x) (le_opposite x y (le_z→Le x y e))).1
    go false e = (in_order (neg_ℤ x) (neg_ℤ y) (le_opposite y x (nle_z→Le x y e))).0

-- ---- of f 0 to f n
abbrev pub opposite : (ℕ → ℤ) → ℕ → ℤ
opposite f k = neg_ℤ (f k)

-- z is one of f 0 to f n
pub record Reached (f : ℕ → ℤ) (n : ℕ) (z : ℤ) : Type 0 where
  pub k : ℕ
  pub within : k ≤ n
  pub is : z ≡ f k

module _ (f : ℕ → ℤ) where
  pub least-bound : (n k : ℕ) → k ≤ n → Le (least_to f n) (f k)
  unfolding least_to
  least-bound zero zero h = omega arith
  least-bound zero (suc k) h = absurd (omega arith)
  least-bound (suc n) k h =
      let b = lesser_le (least_to f n) (f (suc n)) in
      elim (eq-or-lt_of_le h) [ inl e ↦ rw e b.1 | inr l ↦ omega (arith, b.0, least-bound n k (le_of_suc-le-suc l)) ]

  pub least_reached : (n : ℕ) → Reached f n (least_to f n)
  unfolding least_to
  least_reached zero = record { k = 0; within = omega arith; is = refl }
  least_reached (suc n) = go (le_z (least_to f n) (f (suc n))) (least_reached n)
    where
      go : (t : Bool) → Reached f n (least_to f n) → Reached f (suc n) (cond t (least_to f n) (f (suc n)))
      go true h = record { k = h.k; within = omega (arith, h.within); is = h.is }
      go false h = record { k = suc n; within = omega arith; is = refl }

  pub least_opposite : (n : ℕ) → least_to (opposite f) n ≡ neg_ℤ (greatest_to f n)
  unfolding least_to greatest_to
  least_opposite zero = refl
  least_opposite (suc n) = rw (least_opposite n) (lesser_opposite (greatest_to f n) (f (suc n)))

module _ (f : ℕ → ℤ) (n : ℕ) where
  abbrev high : ℤ
  high = greatest_to f n

  greatest-is : high ≡ neg_ℤ (least_to (opposite f) n)
  greatest-is = sym (ap neg_ℤ (least_opposite f n) ∙ neg_ℤ-neg_ℤ high)

  pub greatest-bound : (k : ℕ) → k ≤ n → Le (f k) high
  greatest-bound k h =
      omega (arith, rw (least_opposite f n) at (least-bound (opposite f) n k h), plus_neg high, minus_neg high, plus_neg (f k), minus_neg (f k))

  pub greatest_reached : Reached f n high
  greatest_reached =
      let r = least_reached (opposite f) n in
      record { k = r.k; within = r.within; is = greatest-is ∙ ap neg_ℤ r.is ∙ neg_ℤ-neg_ℤ (f r.k) }

  pub least-greatest : Le (least_to f n) high
  least-greatest = omega (arith, least-bound f n 0 (omega arith), greatest-bound 0 (omega arith))

-- negation exchanges them
pub greatest_opposite : (f : ℕ → ℤ) (n : ℕ) → greatest_to (opposite f) n ≡ neg_ℤ (least_to f n)
greatest_opposite f n = greatest-is (opposite f) n ∙ ap (λ (h : ℕ → ℤ). neg_ℤ (least_to h n)) (λ i k. neg_ℤ-neg_ℤ (f k) i)
