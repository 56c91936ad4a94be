-- The whole cells of the definition are in order, complete and without duplicates, and its places are those of all points in range.
-- Assumes nothing.
use mathlib.Core.Path.{◌≡◌, refl, sym, ap, ap₂, subst, ◌∙◌}
use mathlib.Core.Bool.{Bool, true, false, cond, false≢true}
use mathlib.Core.List.{List, [], ◌∷◌, ◌++◌, map, append-nil}
use mathlib.Core.Logic.{◌⊎◌, inl, inr}
use Prim.Native.Nat.{ℕ, zero, suc, ◌+◌, ◌*◌, ◌/◌, ◌%◌, ◌<◌}
use native.Mathlib.Nat.{eq-or-lt_of_le, le_of_suc-le-suc, div-add-mod'}
use native.Mathlib.Omega.{arith}
use lib.Arith.{digits_lt, digits_div, digits_mod}
use lib.IntN.{pos, ◌-ℤ◌}
use lib.ListN.{length, get_or, length-append, get_or-append}
use lib.Seq.{get_or_at}
use Rattle.lent_list.specs.Front.{up_to}
use Rattle.grid_alignment.specs.declared.Coord.{Coord}
use Rattle.grid_alignment.specs.Alignment.{point}
use Rattle.marker_sampling.specs.Cells.{whole_cell, point_at}
use Rattle.marker_sampling.specs.Keys.{key_side}
use Rattle.marker_sampling.specs.Rules.{PassingInOrder, CellsInOrder, EveryPoint}
use Rattle.marker_sampling.proofs.Offsets.{offset_of, offset_small, offset_back, offset_only}

module _ {A : Type 0} where
  map_snoc : (f : ℕ → A) (xs : List ℕ) (x : ℕ) → map f (xs ++ x ∷ []) ≡ map f xs ++ f x ∷ []
  map_snoc f [] x = refl
  map_snoc f (y ∷ ys) x = ap (λ (l : List A). f y ∷ l) (map_snoc f ys x)

-- ---- a list to which each place that passes a test adds its element
module _ {A : Type 0} (test : ℕ → Bool) (element : ℕ → A) where
  abbrev before : ℕ → List A
  before = up_to (λ k. cond (test k) (element k ∷ []) [])

  module _ (n : ℕ) (h : PassingInOrder test element n (before n)) where
    skip : test n ≡ false → PassingInOrder test element (suc n) (before n)
    skip e = record {
      places = h.places;
      are = h.are;
      sound = λ i l. let s = h.sound i l in (omega arith, s.1);
      complete = λ r l t. go r t (eq-or-lt_of_le (le_of_suc-le-suc l));
      rising = h.rising;
    }
      where
        go : (r : ℕ) → test r ≡ true → (r ≡ n) ⊎ (r < n) → (i : ℕ) × (i < length h.places) × (get_or h.places i 0 ≡ r)
        go r t (inl q) = absurd (false≢true (sym e ∙ ap test (sym q) ∙ t))
        go r t (inr l) = h.complete r l t

    abbrev more : List ℕ
    more = h.places ++ n ∷ []

    long : length more ≡ length h.places + 1
    long = length-append h.places (n ∷ [])

    old : (i : ℕ) → i < length h.places → get_or more i 0 ≡ get_or h.places i 0
    old i l = get_or-append h.places (n ∷ []) 0 i l

    new : (i : ℕ) → i ≡ length h.places → get_or more i 0 ≡ n
    new i q = get_or_at h.places n [] 0 i (sym q)

    split : (i : ℕ) → i < length more → (i ≡ length h.places) ⊎ (i < length h.places)
    split i l = eq-or-lt_of_le (omega (arith, long))

    complete_more : (r : ℕ) → test r ≡ true → (r ≡ n) ⊎ (r < n) → (i : ℕ) × (i < length more) × (get_or more i 0 ≡ r)
    complete_more r t (inl q) = (length h.places, omega (arith, long), new (length h.places) refl ∙ sym q)
    complete_more r t (inr l) = let f = h.complete r l t in (f.0, omega (arith, long, f.1), old f.0 f.1 ∙ f.2)

    rising_more : (i j : ℕ) → i < j → (j ≡ length h.places) ⊎ (j < length h.places) → get_or more i 0 < get_or more j 0
    rising_more i j l (inl q) = let k : i < length h.places = omega arith in rw (new j q, old i k) (h.sound i k).0
    rising_more i j l (inr k) = let k' : i < length h.places = omega arith in rw (old i k', old j k) (h.rising i j l k)

    add : test n ≡ true → PassingInOrder test element (suc n) (before n ++ element n ∷ [])
    add e = record {
      places = more;
      are = ap (λ (l : List A). l ++ element n ∷ []) h.are ∙ sym (map_snoc element h.places n);
      sound = λ i l. sound_more i (split i l);
      complete = λ r l t. complete_more r t (eq-or-lt_of_le (le_of_suc-le-suc l));
      rising = λ i j l k. rising_more i j l (split j k);
    }
      where
        sound_more : (i : ℕ) → (i ≡ length h.places) ⊎ (i < length h.places) → (get_or more i 0 < suc n) × (test (get_or more i 0) ≡ true)
        sound_more i (inl q) = rw (new i q) (omega arith, e)
        sound_more i (inr l) = let s = h.sound i l in rw (old i l) (omega arith, s.1)

    next : (b : Bool) → test n ≡ b → PassingInOrder test element (suc n) (before n ++ cond b (element n ∷ []) [])
    next true e = add e
    next false e = subst (PassingInOrder test element (suc n)) (sym (append-nil (before n))) (skip e)

  pub in_order : (n : ℕ) → PassingInOrder test element n (up_to (λ k. cond (test k) (element k ∷ []) []) n)
  unfolding up_to
  in_order zero =
      record {
        places = [];
        are = refl;
        sound = λ i l. absurd (omega arith);
        complete = λ r l t. absurd (omega arith);
        rising = λ i j l k. absurd (omega arith);
      }
  in_order (suc n) = next n (in_order n) (test n) refl

pub cells_in_order : CellsInOrder
cells_in_order m c inliers = in_order (λ r. whole_cell c inliers (point_at m r)) (point_at m) (key_side m * key_side m)

pub every_point : EveryPoint
every_point m p hu hv =
    let u = offset_of m p.u in
    let v = offset_of m p.v in
    let su = offset_small m p.u hu in
    let sv = offset_small m p.v hv in
    record {
      place = v * key_side m + u;
      inside = digits_lt sv su;
      there =
          ap₂ (λ (a b : ℕ). point (pos a -ℤ pos m) (pos b -ℤ pos m)) (digits_mod v su) (digits_div v su)
          ∙ ap₂ point (sym (offset_back m p.u hu)) (sym (offset_back m p.v hv));
      only = λ r l e.
          sym (div-add-mod' r (key_side m))
          ∙ ap₂ (λ (a b : ℕ). b * key_side m + a) (offset_only m (r % key_side m) u (ap (λ (q : Coord). q.u) e ∙ offset_back m p.u hu))
          (offset_only m (r / key_side m) v (ap (λ (q : Coord). q.v) e ∙ offset_back m p.v hv));
    }
