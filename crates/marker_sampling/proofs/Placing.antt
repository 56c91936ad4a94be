-- If the first corners are in range, each that has a grid point is. Assumes nothing.
use mathlib.Core.Path.{◌≡◌, sym, ap, ◌∙◌}
use mathlib.Core.Bool.{Bool, true, not, ◌&&◌, ◌||◌}
use Prim.Native.Nat.{ℕ, ◌<◌}
use Rattle.integers.specs.Distance.{is_within}
use Rattle.integers.specs.Tests.{every}
use Rattle.integers.proofs.Tests.{both, each}
use Rattle.marker_sampling.specs.Cells.{Corners, word, labelled}
use Rattle.marker_sampling.specs.Entry.{placed}

pub both_within : (m : ℕ) (c : Corners) (n k : ℕ) → k < n → every (placed m c) n ≡ true → labelled c k ≡ true
    → (is_within m (word c k 1) ≡ true) × (is_within m (word c k 2) ≡ true)
both_within m c n k l a e =
    both (is_within m (word c k 1)) (is_within m (word c k 2))
    (sym (ap (λ (d : Bool). not d || (is_within m (word c k 1) && is_within m (word c k 2))) e) ∙ each (placed m c) n a k l)
