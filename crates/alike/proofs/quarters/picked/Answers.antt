-- `alike::quarters::picked` meets its contract. The loop's invariant: `sum` has the first k bits. Assumes nothing.
use mathlib.Core.Path.{◌≡◌, refl, ap, ◌∙◌}
use mathlib.Core.List.{List}
use Prim.Native.Nat.{ℕ, ◌+◌, ◌*◌, ◌%◌, ◌^◌, ◌<◌}
use native.Mathlib.Omega.{arith}
use lib.ListN.{get_or}
use Rattle.matcher.specs.Codes.{from_bits}
use Rattle.matcher.proofs.Bits.{Bits, bit-small, next_bit, word_below}
use Rattle.alike.proofs.quarters.picked.Invariants.{picks}
use Rattle.alike.proofs.quarters.picked.Goals as goal
use Rattle.alike.proofs.quarters.picked.Goals.{After-sum-1, Start}

picks_bits : (sources : List ℕ) (code : ℕ) → Bits (picks sources code)
picks_bits sources code k = bit-small code (get_or sources k 0)

pub loop-k-init : goal.loop-k-init
unfolding from_bits
loop-k-init c = refl

-- in the loop
module _ (c : After-sum-1) where
  abbrev f : ℕ → ℕ
  f = picks c.args.sources.now c.args.code

  abbrev k : ℕ
  k = c.loop-k.k

  small : k < 64
  small = omega (arith, c.loop-k-test.true, c.requires.0)

  sum : c.loop-k.sum + f k * 2 ^ k % 2 ^ 64 ≡ from_bits f (k + 1)
  sum =
      ap (λ (x : ℕ). x + f k * 2 ^ k % 2 ^ 64) c.loop-k.invariant
      ∙ next_bit f (picks_bits c.args.sources.now c.args.code) k small

  sum_fits : c.loop-k.sum + f k * 2 ^ k % 2 ^ 64 < 2 ^ 64
  sum_fits = rw sum (word_below f (picks_bits c.args.sources.now c.args.code) (k + 1) (omega (arith, small)))

pub overflow_add-sum : goal.overflow_add-sum
overflow_add-sum c = record { fits = sum_fits c }

pub loop-k-preserved : goal.loop-k-preserved
loop-k-preserved c = sum c
