-- `hypothesis::sums::clear` meets its contract. The loop's invariant: the first k sums are 0. Assumes nothing.
use Prim.Native.Nat.{ℕ}
use lib.Ieee.{Float, nan}
use Rattle.floats.specs.Units.{nought}
use Rattle.shot_record.proofs.Filling.{Filled}
use Rattle.hypothesis.proofs.sums.clear.Given as goal

abbrev pub clear_at : ℕ → Float
clear_at k = nought

abbrev pub invariant-loop-k : goal.invariant-loop-k
invariant-loop-k l = Filled clear_at nan l.sums 1024 l.k
