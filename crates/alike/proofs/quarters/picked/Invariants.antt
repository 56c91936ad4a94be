-- `alike::quarters::picked` meets its contract. The loop's invariant: `sum` has the first k bits. Assumes nothing.
use mathlib.Core.Path.{◌≡◌}
use mathlib.Core.List.{List}
use Prim.Native.Nat.{ℕ}
use lib.ListN.{get_or}
use Rattle.matcher.specs.Codes.{bit, from_bits}
use Rattle.alike.proofs.quarters.picked.Given as goal

abbrev pub picks : List ℕ → ℕ → ℕ → ℕ
picks sources code k = bit code (get_or sources k 0)

abbrev pub invariant-loop-k : goal.invariant-loop-k
invariant-loop-k l = l.sum ≡ from_bits (picks l.sources l.code) l.k
