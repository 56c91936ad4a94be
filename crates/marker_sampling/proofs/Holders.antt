-- The corner of a grid point is the last inlier there. Assumes nothing.
use mathlib.Core.Path.{◌≡◌, refl, ap, ap₂, ◌∙◌}
use mathlib.Core.Bool.{Bool, true, false}
use mathlib.Core.List.{List, [], ◌∷◌}
use mathlib.Core.Option.{Option, none, some}
use Prim.Native.Nat.{ℕ, zero, suc, ◌+◌, ◌<◌, suc-le-suc, zero-le}
use native.Mathlib.Omega.{arith}
use lib.ListN.{length, get_or, drop, length-drop}
use lib.Seq.{drop-cons, get_or-drop}
use Rattle.grid_alignment.specs.declared.Coord.{Coord}
use Rattle.marker_sampling.specs.Cells.{Corners, stands, holder, later}

module _ (c : Corners) (p : Coord) where
  pub nobody : (inliers : List ℕ) → ((i : ℕ) → i < length inliers → stands c (get_or inliers i 0) p ≡ false) → holder c inliers p ≡ none
  unfolding holder
  nobody [] h = refl
  nobody (k ∷ ks) h =
      ap₂ (λ (o : Option ℕ) (b : Bool). later o b k) (nobody ks (λ i l. h (suc i) (suc-le-suc l))) (h zero (suc-le-suc zero-le))

  -- none of the inliers after i is there
  holder-from : (inliers : List ℕ) (i : ℕ) → i < length inliers → holder c (drop (suc i) inliers) p ≡ none → stands c (get_or inliers i 0) p ≡ true
      → holder c (drop i inliers) p ≡ some (get_or inliers i 0)
  unfolding holder
  holder-from inliers i l e f =
      ap (λ (ks : List ℕ). holder c ks p) (drop-cons inliers i 0 l) ∙ ap₂ (λ (o : Option ℕ) (t : Bool). later o t (get_or inliers i 0)) e f

  -- those before the last one are skipped
  wins : (i : ℕ) (inliers : List ℕ) (k : ℕ) → holder c (drop i inliers) p ≡ some k → holder c inliers p ≡ some k
  unfolding holder
  wins zero inliers k e = e
  wins (suc i) [] k e = e
  wins (suc i) (x ∷ xs) k e = ap (λ (o : Option ℕ). later o (stands c x p) x) (wins i xs k e)

  -- the inlier at i is there, and none after it
  pub last_holds : (inliers : List ℕ) (i : ℕ) → i < length inliers → stands c (get_or inliers i 0) p ≡ true
      → ((j : ℕ) → i < j → j < length inliers → stands c (get_or inliers j 0) p ≡ false) → holder c inliers p ≡ some (get_or inliers i 0)
  last_holds inliers i l t h =
      wins i inliers (get_or inliers i 0)
      (holder-from inliers i l
      (nobody (drop (suc i) inliers)
      (λ k g.
      let d = length-drop (suc i) inliers in
      rw (get_or-drop (suc i) inliers k 0) (h (suc i + k) (omega arith) (omega arith)))) t)
