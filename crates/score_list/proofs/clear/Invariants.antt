-- `score_list::clear` meets its contract. The loop's invariant: the first i elements are 0. Assumes nothing.
use Prim.Native.Nat.{ℕ, ◌<◌}
use lib.Ieee.{nan}
use Rattle.floats.specs.Units.{nought}
use Rattle.lent_list.specs.Scattered.{Wrote}
use Rattle.score_list.proofs.clear.Given as goal

abbrev pub invariant-loop-i : goal.invariant-loop-i
invariant-loop-i l = Wrote nan (λ (j : ℕ). j < l.i) (λ (j : ℕ). j) (λ (j : ℕ). nought) l.initial.adds l.adds
