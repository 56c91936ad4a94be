-- `grid_alignment::turn_matrix` meets its contract: each row of the table is its turn's matrix. Assumes nothing.
use mathlib.Core.Path.{◌≡◌, refl}
use Prim.Native.Nat.{ℕ, ◌%◌}
use Rattle.matcher.proofs.Turns.{each_turn}
use Rattle.grid_alignment.specs.Alignment.{matrix_of}
use Rattle.grid_alignment.proofs.turn_matrix.Goals as goal

by_cases : {X : Type 0} (r : ℕ) → (r % 4 ≡ 0 → X) → (r % 4 ≡ 1 → X) → (r % 4 ≡ 2 → X) → (r % 4 ≡ 3 → X) → X
by_cases {X} r a b c d = each_turn (λ m. r % 4 ≡ m → X) a b c d r refl

pub returns : goal.returns
unfolding matrix_of
returns c = by_cases c.args.turn (λ e. rw e) (λ e. rw e) (λ e. rw e) (λ e. rw e)
