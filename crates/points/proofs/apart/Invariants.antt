-- `points::apart` meets its contract. The loop's invariant: `met` flags the residues of the first k points, which are pairwise distinct.
-- Assumes nothing.
use mathlib.Core.Path.{◌≡◌}
use mathlib.Core.Bool.{Bool, true, false}
use mathlib.Core.List.{List}
use Prim.Native.Nat.{ℕ, ◌<◌}
use lib.ListN.{length, get_or}
use Rattle.sorting.specs.Order.{AllDifferent}
use Rattle.points.specs.Points.{residue_in}
use Rattle.points.proofs.apart.Given as goal

-- ---- flags of the words at 0 to k − 1, and of no others
pub record Marks (word : ℕ → ℕ) (k : ℕ) (met : List Bool) : Type 0 where
  pub size : length met ≡ 1024
  pub marked : (i : ℕ) → i < k → get_or met (word i) false ≡ true
  pub only : (q : ℕ) → get_or met q false ≡ true → (i : ℕ) × (i < k) × (word i ≡ q)

-- ---- the loop
abbrev pub invariant-loop-k : goal.invariant-loop-k
invariant-loop-k l = AllDifferent l.k (residue_in l.index) × Marks (residue_in l.index) l.k l.met
