-- The results of searches in the corner map: the last inlier at a key, and where the next search can start. Assumes nothing.
use mathlib.Core.Path.{◌≡◌, ap, ◌∙◌}
use mathlib.Core.List.{List}
use mathlib.Core.Logic.{◌⊎◌, inl, inr}
use mathlib.Core.Option.{none, some}
use Prim.Native.Nat.{ℕ, ◌+◌, ◌-◌, ◌*◌, ◌/◌, ◌%◌, ◌≤◌, ◌<◌}
use native.Mathlib.Omega.{arith}
use lib.ListN.{length, get_or}
use borrow.Author.Tests.{eq-eqb, ne_eqb}
use Rattle.marker_sampling.specs.Cells.{Corners, holder, stands}
use Rattle.marker_sampling.specs.Keys.{key_side, range_point, MapOf, LowerBound, FirstBelow, Searchable}
use Rattle.integers.proofs.Distances.{lt_or_le}
use Rattle.marker_sampling.proofs.Holders.{nobody, last_holds}

-- ---- where a search can start
-- for a greater word
pub still_below : {map : List ℕ} {x y p : ℕ} → x ≤ y → FirstBelow map x p → FirstBelow map y p
still_below l b = record { inside = b.inside; below = λ k h. omega (arith, l, b.below k h) }

-- after another search
pub searched_below : {map : List ℕ} {x y p : ℕ} → x ≤ y → LowerBound map x p → FirstBelow map y p
searched_below l b = still_below l (record { inside = b.inside; below = b.below })

-- index 0
pub none_before : (map : List ℕ) (x : ℕ) → FirstBelow map x 0
none_before map x = record { inside = omega arith; below = λ k h. absurd (omega arith) }

pub at_start : (map : List ℕ) → LowerBound map 0 0
at_start map = record { inside = omega arith; below = λ k h. absurd (omega arith); above = λ k h g. omega arith }

-- ---- the last inlier at a key
module _ (m : ℕ) (c : Corners) (inliers map : List ℕ) (h : MapOf m c inliers map) (u v : ℕ) (hu : u < key_side m) (hv : v < key_side m) where
  abbrev key : ℕ
  key = v * key_side m + u

  -- no word has the key
  unkeyed : ((j : ℕ) → j < length map → get_or map j 0 / 1024 ≡ key → ⊥) → holder c inliers (range_point m u v) ≡ none
  unkeyed absent =
      nobody c (range_point m u v) inliers
      (λ i l. let f = h.has i l in f.2.key.at u v hu hv ∙ ne_eqb (get_or map f.0 0 / 1024) key (absent f.0 f.1))

  -- the words with the key are at `first` to `end` − 1
  module _ (first end : ℕ) (f : LowerBound map (key * 1024) first) (b : LowerBound map ((key + 1) * 1024) end) where
    inside : (j : ℕ) → j < length map → get_or map j 0 / 1024 ≡ key → (first ≤ j) × (j < end)
    inside j l e = (from_first (lt_or_le j first), before_end (lt_or_le j end))
      where
        from_first : (j < first) ⊎ (first ≤ j) → first ≤ j
        from_first (inl d) = absurd (omega (arith, e, f.below j d))
        from_first (inr d) = d

        before_end : (j < end) ⊎ (end ≤ j) → j < end
        before_end (inl d) = d
        before_end (inr d) = absurd (omega (arith, e, b.above j d l))

    pub none_there : end ≤ first → holder c inliers (range_point m u v) ≡ none
    none_there e = unkeyed (λ j l q. omega (arith, e, inside j l q))

    module _ (some_there : first < end) where
      last_key : get_or map (end - 1) 0 / 1024 ≡ key
      last_key = omega (arith, f.above (end - 1) (omega arith) (omega (arith, b.inside)), b.below (end - 1) (omega arith))

      -- none of them is above the last
      under : (j : ℕ) → j < length map → get_or map j 0 / 1024 ≡ key → get_or map j 0 ≤ get_or map (end - 1) 0
      under j l e = h.rising j (end - 1) (omega (arith, inside j l e)) (omega (arith, b.inside))

      pub last_there : holder c inliers (range_point m u v) ≡ some (get_or inliers (get_or map (end - 1) 0 % 1024) 0)
      last_there =
          let w = get_or map (end - 1) 0 in
          let s = h.from (end - 1) (omega (arith, b.inside)) in
          last_holds c (range_point m u v) inliers (w % 1024) (omega (arith, s.1, s.2.place))
          (ap (λ (i : ℕ). stands c (get_or inliers i 0) (range_point m u v)) s.2.place ∙ s.2.key.at u v hu hv ∙ eq-eqb (w / 1024) key last_key)
          (λ i l g.
          let d = h.has i g in
          d.2.key.at u v hu hv ∙ ne_eqb (get_or map d.0 0 / 1024) key (λ q. omega (arith, last_key, l, d.2.place, under d.0 d.1 q)))

pub searchable : {m : ℕ} {c : Corners} {inliers map : List ℕ} → length inliers ≤ 1024 → c.count ≤ 1024 → MapOf m c inliers map
    → Searchable m inliers map
searchable {m} {c} {inliers} {map} short few h = record {
  short = short;
  long = h.long;
  rising = h.rising;
  bounded = λ j l. (h.from j l).2.key.most;
  place = λ j l. let f = h.from j l in omega (arith, f.1, f.2.place);
  small = λ j l g.
      let f = h.from j l in
      rw f.2.place (omega (arith, few, f.2.key.small g));
}
