-- The words of the inliers in the corner map. Assumes nothing.
use mathlib.Core.Path.{◌≡◌, sym, subst, ◌∙◌}
use mathlib.Core.List.{List}
use Prim.Native.Nat.{ℕ, ◌+◌, ◌*◌, ◌<◌}
use native.Mathlib.Omega.{arith}
use borrow.Author.Count.{below_more}
use lib.Arith.{digits_div, digits_mod}
use lib.ListN.{length, get_or, set}
use lib.Seq.{get_or-set_same, get_or-set_other}
use Rattle.marker_sampling.specs.Cells.{Corners}
use Rattle.marker_sampling.specs.Keys.{HasKey, HasWord, MapOf, Filled}
use Rattle.sorting.specs.Order.{Rearranged, Sorted}
use Rattle.sorting.proofs.Rearranging.{rearranged_sym, rearranged_inside}

-- the word of inlier i
pub word_of : (m : ℕ) (c : Corners) (inliers : List ℕ) (i key : ℕ) → i < 1024 → HasKey m c (get_or inliers i 0) key → HasWord m c inliers i (key * 1024 + i)
word_of m c inliers i key l k =
    record { key = subst (HasKey m c (get_or inliers i 0)) (sym (digits_div key l)) k; place = digits_mod key l }

module _ (m : ℕ) (c : Corners) (inliers : List ℕ) where
  pub filled_more : (n : ℕ) (map : List ℕ) (word : ℕ) → n < length map → Filled m c inliers n map → HasWord m c inliers n word
      → Filled m c inliers (n + 1) (set map n word)
  filled_more n map word room h w =
      below_more (λ (k : ℕ). HasWord m c inliers k (get_or (set map n word) k 0)) n
      (λ k l. rw (get_or-set_other map n k word 0 (λ e. omega arith)) (h k l))
      (rw (get_or-set_same map n word 0 room) w)

  -- sorted, they are the map
  pub sorted_map : {before after : List ℕ} → length before ≡ length inliers → Filled m c inliers (length inliers) before
      → Sorted (length before) before after → MapOf m c inliers after
  sorted_map {before} {after} e h s = record {
    long = s.long ∙ e;
    rising = rw s.long s.rising;
    has = λ i l.
        let there = rearranged_inside f i (omega arith) in
        (f.to i, omega (arith, there, s.long), subst (HasWord m c inliers i) (sym (f.word i)) (h i l));
    from = λ j l.
        let k = rearranged_inside g j (omega (arith, s.long)) in
        (g.to j, omega (arith, k, e), subst (HasWord m c inliers (g.to j)) (g.word j) (h (g.to j) (omega (arith, k, e))));
  }
    where
      f : Rearranged (length before) before after
      f = s.same

      g : Rearranged (length before) after before
      g = rearranged_sym f
