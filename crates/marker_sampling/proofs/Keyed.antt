-- The key of a grid point is its row-major index: an index is at the point of its key. Assumes nothing.
use mathlib.Core.Path.{◌≡◌, refl, sym, ap, ap₂, ◌∙◌}
use mathlib.Core.Bool.{true, false, ◌&&◌}
use Prim.Native.Nat.{ℕ, ◌+◌, ◌*◌, ◌/◌, ◌%◌, ◌<◌}
use native.Mathlib.Nat.{mod-lt, div-lt_iff_lt-mul}
use native.Mathlib.Omega.{arith}
use lib.Arith.{digits_lt, digits_div, digits_mod}
use lib.IntN.{pos, ◌+ℤ◌, ◌-ℤ◌, +ℤ_idr}
use Rattle.std.specs.Cmp.{both_ways}
use Rattle.std.proofs.lemmas.Bool.{false_from_ne_true}
use borrow.Author.Tests.{lt-ltb, eq-eqb, ne_eqb, eqb-true}
use Rattle.integers.proofs.Parts.{plus, minus, add_is, sub_is_parts, ext}
use Rattle.grid_alignment.specs.declared.Coord.{Coord}
use Rattle.grid_alignment.specs.Alignment.{point, corner}
use Rattle.integers.specs.Distance.{same}
use Rattle.integers.proofs.Distances.{same_refl, same_eq}
use Rattle.marker_sampling.specs.Cells.{Corners, word, labelled, stands}
use Rattle.marker_sampling.specs.Keys.{key_side, range_point, HasKey}
use Rattle.integers.proofs.Tests.{both}
use Rattle.marker_sampling.proofs.Offsets.{offset_only}

-- rows of w: an index determines row and column
digits_same : (w : ℕ) {u v a b : ℕ} → u < w → a < w → v * w + u ≡ b * w + a → (u ≡ a) × (v ≡ b)
digits_same w {u} {v} {a} {b} hu ha e =
    (sym (digits_mod v hu) ∙ ap (λ (n : ℕ). n % w) e ∙ digits_mod b ha, sym (digits_div v hu) ∙ ap (λ (n : ℕ). n / w) e ∙ digits_div b ha)

-- the row and the column of an index
module _ (m : ℕ) {r : ℕ} (h : r < key_side m * key_side m) where
  pub column : r % key_side m < key_side m
  column = mod-lt r (omega arith)

  pub row : r / key_side m < key_side m
  row = (div-lt_iff_lt-mul {k = key_side m} (omega arith)).1 h

module _ (m : ℕ) (c : Corners) (k : ℕ) where
  -- a skipped index
  pub passed_over : ((p : Coord) → stands c k p ≡ false) → HasKey m c k (key_side m * key_side m)
  passed_over h = record {
    at = λ u v hu hv. h (range_point m u v) ∙ sym (ne_eqb (key_side m * key_side m) (v * key_side m + u) (λ e. let l = digits_lt hv hu in omega arith));
    right = λ u v l. h (range_point m u v);
    under = λ u v l. h (range_point m u v);
    most = omega arith;
    small = λ l. absurd (omega arith);
  }

  module _ (a b : ℕ) (ha : a < key_side m) (hb : b < key_side m) (hk : k < c.count) (hl : labelled c k ≡ true)
      (eu : word c k 1 ≡ pos a -ℤ pos m) (ev : word c k 2 ≡ pos b -ℤ pos m) where
    -- its point
    stands-is : (p : Coord) → stands c k p ≡ (same (pos a -ℤ pos m) p.u && same (pos b -ℤ pos m) p.v)
    stands-is p = rw (lt-ltb k c.count hk, hl, eu, ev)

    only : (u v : ℕ) → stands c k (range_point m u v) ≡ true → (a ≡ u) × (b ≡ v)
    only u v e =
        let h = both _ _ (sym (stands-is (range_point m u v)) ∙ e) in
        (offset_only m a u (same_eq _ _ h.0), offset_only m b v (same_eq _ _ h.1))

    stands-there : (u v : ℕ) → a ≡ u → b ≡ v → stands c k (range_point m u v) ≡ true
    stands-there u v e f = stands-is (range_point m u v) ∙ rw (sym e, sym f, same_refl (pos a -ℤ pos m), same_refl (pos b -ℤ pos m))

    pub keyed : HasKey m c k (b * key_side m + a)
    keyed = record {
      at = λ u v hu hv.
          both_ways _ _ (λ e. let o = only u v e in eq-eqb (b * key_side m + a) (v * key_side m + u) (ap₂ (λ (x y : ℕ). y * key_side m + x) o.0 o.1))
          (λ e. let o = digits_same (key_side m) ha hu (eqb-true (b * key_side m + a) (v * key_side m + u) e) in stands-there u v o.0 o.1);
      right = λ u v l. false_from_ne_true _ (λ e. let o = only u v e in omega arith);
      under = λ u v l. false_from_ne_true _ (λ e. let o = only u v e in omega arith);
      most = let l = digits_lt hb ha in omega arith;
      small = λ l. hk;
    }

-- the corners of a cell are one column and one row further
module _ (m : ℕ) where
  shift_one : (n : ℕ) → (pos n -ℤ pos m) +ℤ pos 1 ≡ pos (n + 1) -ℤ pos m
  unfolding plus minus
  shift_one n =
      ext ((pos n -ℤ pos m) +ℤ pos 1) (pos (n + 1) -ℤ pos m)
      (omega (arith, add_is (pos n -ℤ pos m) (pos 1), sub_is_parts (pos n) (pos m), sub_is_parts (pos (n + 1)) (pos m)))

  pub corner_0 : (u v : ℕ) → corner 0 (range_point m u v) ≡ range_point m u v
  unfolding corner
  corner_0 u v = refl

  pub corner_1 : (u v : ℕ) → corner 1 (range_point m u v) ≡ range_point m (u + 1) v
  unfolding corner
  corner_1 u v = ap₂ point (shift_one u) (+ℤ_idr (pos v -ℤ pos m))

  pub corner_2 : (u v : ℕ) → corner 2 (range_point m u v) ≡ range_point m (u + 1) (v + 1)
  unfolding corner
  corner_2 u v = ap₂ point (shift_one u) (shift_one v)

  pub corner_3 : (u v : ℕ) → corner 3 (range_point m u v) ≡ range_point m u (v + 1)
  unfolding corner
  corner_3 u v = ap₂ point (+ℤ_idr (pos u -ℤ pos m)) (shift_one v)
