-- The definition at small lists, and that it holds exactly if no two places have the same point. Assumes nothing.
use mathlib.Core.Path.{◌≡◌, refl, sym, ap, ap₂, ◌∙◌}
use mathlib.Core.Bool.{Bool, true, false, not, false≢true}
use mathlib.Core.List.{List, [], ◌∷◌}
use Prim.Native.Nat.{ℕ, ◌<◌}
use lib.IntN.{pos, negsuc}
use lib.ListN.{get_or}
use borrow.Author.Tests.{not-true}
use native.Mathlib.Omega.{arith}
use Rattle.integers.specs.Distance.{same}
use Rattle.integers.proofs.Distances.{same_refl, same_eq}
use Rattle.integers.specs.Tests.{every}
use Rattle.integers.proofs.Tests.{both, each, from_each, one_out, same-answers}
use Rattle.grid_alignment.specs.declared.Coord.{Coord}
use Rattle.grid_alignment.specs.Alignment.{point}
use Rattle.points.specs.Points.{same_point, all_apart}

-- ---- small lists: first and last equal; equal u alone; equal v alone
abbrev listed : List Coord → ℕ → Coord
listed points k = get_or points k (point (pos 0) (pos 0))

first_and_last : all_apart (listed (point (pos 3) (negsuc 1) ∷ point (pos 4) (negsuc 1) ∷ point (pos 3) (negsuc 1) ∷ [])) 3 ≡ false
unfolding every
first_and_last = refl

u_alone : all_apart (listed (point (pos 3) (negsuc 1) ∷ point (pos 3) (pos 1) ∷ [])) 2 ≡ true
unfolding every
u_alone = refl

v_alone : all_apart (listed (point (pos 1) (negsuc 1) ∷ point (negsuc 0) (negsuc 1) ∷ [])) 2 ≡ true
unfolding every
v_alone = refl

-- ---- two points
pub same_point_lem : (p q : Coord) → p ≡ q → same_point p q ≡ true
same_point_lem p q e = rw (e, same_refl q.u, same_refl q.v)

pub point-same : (p q : Coord) → same_point p q ≡ true → p ≡ q
point-same p q e = let h = both (same p.u q.u) _ e in ap₂ point (same_eq _ _ h.0) (same_eq _ _ h.1)

-- ---- many
module _ (at : ℕ → Coord) (n : ℕ) where
  abbrev apart : ℕ → ℕ → Bool
  apart j i = not (same_point (at i) (at j))

  pub none_twice : all_apart at n ≡ true → (i j : ℕ) → i < j → j < n → at i ≡ at j → ⊥
  none_twice e i j l h f =
      let fails = not-true _ (each (apart j) j (each (λ (k : ℕ). every (apart k) k) n e j h) i l) in
      false≢true (sym fails ∙ same_point_lem (at i) (at j) f)

  pub if_none_twice : ((i j : ℕ) → i < j → j < n → at i ≡ at j → ⊥) → all_apart at n ≡ true
  if_none_twice f = from_each (λ (j : ℕ). every (apart j) j) n (λ j h. from_each (apart j) j (λ i l. go i j l h (same_point (at i) (at j)) refl))
    where
      go : (i j : ℕ) → i < j → j < n → (b : Bool) → same_point (at i) (at j) ≡ b → not b ≡ true
      go i j l h true e = absurd (f i j l h (point-same (at i) (at j) e))
      go i j l h false e = refl

  pub if_twice : (i j : ℕ) → i < j → j < n → at i ≡ at j → all_apart at n ≡ false
  if_twice i j l h e =
      sym (one_out (λ (k : ℕ). every (apart k) k) n j false h
      (sym (one_out (apart j) j i false l (ap not (same_point_lem (at i) (at j) e)) refl)) refl)

-- equal points
pub same_apart : (f g : ℕ → Coord) (n : ℕ) → ((k : ℕ) → k < n → f k ≡ g k) → all_apart f n ≡ all_apart g n
same_apart f g n e =
    same-answers (λ (j : ℕ). every (λ (i : ℕ). not (same_point (f i) (f j))) j) (λ (j : ℕ). every (λ (i : ℕ). not (same_point (g i) (g j))) j) n
    (λ j h. same-answers (λ (i : ℕ). not (same_point (f i) (f j))) (λ (i : ℕ). not (same_point (g i) (g j))) j
    (λ i l. ap₂ (λ (p q : Coord). not (same_point p q)) (e i (omega (arith, l, h))) (e j h)))
