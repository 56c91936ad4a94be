-- The sums over the contributing cells, reported and exact, are near each other, and the capacity is small. Assumes nothing.
use Prim.Native.Nat.{ℕ, suc, ◌+◌, ◌*◌, ◌^◌, ◌≤◌}
use native.Mathlib.Nat.{le_trans, mul-le-mul, mul-le-mul_right}
use native.Mathlib.Omega.{arith}
use mathlib.Core.Path.{◌≡◌, refl, ap, subst}
use mathlib.Core.List.{List, [], ◌∷◌, foldl, Memᴰ}
use lib.Dec.{lit<}
use lib.ListN.{length}
use lib.IntN.{ℤ, pos, ◌+ℤ◌, ◌*ℤ◌}
use lib.Ieee.{Float, binary32, add}
use Rattle.integers.proofs.Distances.{Near, near_refl, near_wider, near_trans, near_add, near_scale, scale_add}
use Rattle.floats.specs.Units.{units_of, nought}
use Rattle.floats.proofs.Folds.{Item, Inv, inv_item, start, step, tight, long_schedule, long-near}
use Rattle.grid_alignment.specs.declared.GridAlignment.{GridAlignment}
use Rattle.shot_record.specs.Shots.{Shot}
use Rattle.hypothesis.specs.Placements.{cell_total}
use Rattle.hypothesis.specs.Evidence.{Contribution, contributions, reported_term, reported_sum, exact_term, exact_sum, capacity_term, capacity}
use Rattle.hypothesis.specs.Accuracy.{Checked, wide, bound}
use Rattle.hypothesis.proofs.Contributing.{at_most}
use Rattle.hypothesis.proofs.Terms.{all_terms}

-- ---- n terms of size at most 512: x is their f32 sum, y their exact sum
abbrev Total : ℕ → Float → ℤ → Type 0
Total n x y = Inv binary32 (2 ^ 158) (tight (2 ^ 158)) n x y

module _ (f : Contribution → Float) where
  abbrev rounded : Float → List Contribution → Float
  rounded x cs = foldl (λ (y : Float) (c : Contribution). add binary32 y (f c)) x cs

  abbrev unrounded : ℤ → List Contribution → ℤ
  unrounded y cs = foldl (λ (z : ℤ) (c : Contribution). z +ℤ units_of (f c)) y cs

  total : (cs : List Contribution) → ((c : Contribution) → Memᴰ c cs → Item binary32 (2 ^ 158) (f c)) → (m n : ℕ) (x : Float) (y : ℤ)
      → m + length cs ≡ n → n ≤ 256 → Total m x y → Total n (rounded x cs) (unrounded y cs)
  total [] t m n x y e l v =
      let q : m ≡ n = omega (arith, e) in
      subst (λ (k : ℕ). Total k x y) q v
  total (c ∷ cs) t m n x y e l v =
      total cs (λ d i. t d (Memᴰ.tail i)) (suc m) n (add binary32 x (f c)) (y +ℤ units_of (f c)) (omega (arith, e)) l
      (step (long_schedule 256 (lit< tt)) m x y (f c) (omega (arith, e, l)) v (t c (Memᴰ.head refl)))

-- a sum of at most 256 terms has a size of at most 256 × 512
total_item : {n : ℕ} {x : Float} {y : ℤ} → n ≤ 256 → Total n x y → Item binary32 (2 ^ 166) x
total_item l v = let i = inv_item v in record { holds = i.holds; is_finite = i.is_finite; small = le_trans i.small (mul-le-mul_right (2 ^ 158) l) }

-- ---- terms f within e of the exact terms g, in units of which w are one unit of f
module _ (f g : Contribution → ℤ) (w e : ℕ) where
  near_next : (m : ℕ) (y t : ℤ) {z u : ℤ} → Near (y *ℤ pos w) z (m * e) → Near (t *ℤ pos w) u e → Near ((y +ℤ t) *ℤ pos w) (z +ℤ u) (suc m * e)
  near_next m y t h k = rw (scale_add w y t) (near_wider (omega arith) (near_add h k))

  near_sums : (cs : List Contribution) → ((c : Contribution) → Memᴰ c cs → Near (f c *ℤ pos w) (g c) e) → (m n : ℕ) (y z : ℤ) → m + length cs ≡ n
      → Near (y *ℤ pos w) z (m * e)
      → Near (foldl (λ (a : ℤ) (c : Contribution). a +ℤ f c) y cs *ℤ pos w) (foldl (λ (a : ℤ) (c : Contribution). a +ℤ g c) z cs) (n * e)
  near_sums [] t m n y z q h =
      let i : m ≡ n = omega (arith, q) in
      subst (λ (k : ℕ). Near (y *ℤ pos w) z (k * e)) i h
  near_sums (c ∷ cs) t m n y z q h =
      near_sums cs (λ d i. t d (Memᴰ.tail i)) (suc m) n (y +ℤ f c) (z +ℤ g c) (omega (arith, q)) (near_next m y (f c) h (t c (Memᴰ.head refl)))

-- the bound: m × (m + 1) for the additions, and 66 for each term
in_all : (m n u v w : ℕ) → u * v ≡ w → m ≤ n → m * (m + 1) * u * v + m * (66 * w) ≤ n * (n + 67) * w
in_all m n u v w e l =
    let k : m * (m + 67) ≤ n * (n + 67) = mul-le-mul l (omega arith) in
    omega (arith, ap (λ (x : ℕ). m * (m + 1) * x) e, mul-le-mul_right w k)

-- ---- the contributing cells of a placement
module _ (s : Shot) (c : Checked s) (p : GridAlignment) where
  abbrev cs : List Contribution
  cs = contributions s p

  few : length cs ≤ 256
  few = le_trans (at_most s p (cell_total s)) c.few

  sum-total : (f : Contribution → Float) → ((d : Contribution) → Memᴰ d cs → Item binary32 (2 ^ 158) (f d))
      → Total (length cs) (rounded f nought cs) (unrounded f (pos 0) cs)
  sum-total f t = total f cs t 0 (length cs) nought (pos 0) (omega arith) few (start binary32 (2 ^ 158) (tight (2 ^ 158)))

  pub capacity_item : Item binary32 (2 ^ 166) (capacity s p)
  unfolding capacity
  capacity_item = total_item few (sum-total (capacity_term s) (λ d i. (all_terms s c p.turn p d i).share))

  reported-total : Total (length cs) (reported_sum s p.turn cs) (unrounded (reported_term s p.turn) (pos 0) cs)
  reported-total = sum-total (reported_term s p.turn) (λ d i. (all_terms s c p.turn p d i).item)

  pub reported_item : Item binary32 (2 ^ 166) (reported_sum s p.turn cs)
  reported_item = total_item few reported-total

  pub reported-near : Near (wide (reported_sum s p.turn cs)) (exact_sum s p.turn cs) (bound s)
  reported-near =
      near_wider (in_all (length cs) (cell_total s) (2 ^ 133) (2 ^ 149) (2 ^ 282) refl (at_most s p (cell_total s)))
      (near_trans (near_scale (2 ^ 149) (long-near reported-total))
      (near_sums (λ d. units_of (reported_term s p.turn d)) (exact_term s p.turn) (2 ^ 149) (66 * 2 ^ 282) cs (λ d i. (all_terms s c p.turn p d i).near) 0
      (length cs) (pos 0) (pos 0) (omega arith) (near_refl (pos 0))))
