-- `matcher::with_row` meets its contract. The loop's invariant: `sum` has the bits of the rows above and of the first x columns of this row.
-- Assumes nothing.
use mathlib.Core.Path.{◌≡◌, ap₂, sym, subst, ◌∙◌}
use Prim.Native.Nat.{ℕ, ◌+◌, ◌*◌, ◌/◌, ◌%◌, ◌^◌, ◌<◌}
use native.Mathlib.Omega.{arith}
use Rattle.matcher.specs.declared.Place.{Place}
use Rattle.matcher.specs.Codes.{from_bits, bit, index_of, turned_bit}
use Rattle.matcher.proofs.Turns.{source-small, next_turned_bit, next_below}
use Rattle.matcher.proofs.with_row.Goals as goal
use Rattle.matcher.proofs.with_row.Goals.{After-source_place-p, Start}

-- after the call, in the loop
module _ (c : After-source_place-p) where
  abbrev code : ℕ
  code = c.args.code

  abbrev n : ℕ
  n = c.args.n

  abbrev turn : ℕ
  turn = c.args.turn

  abbrev x : ℕ
  x = c.loop-x.x

  abbrev y : ℕ
  y = c.args.y

  abbrev at : ℕ
  at = index_of n c.source_place-p.result

  from-small : at < 64
  from-small =
      subst (λ (p : Place). index_of n p < 64) (sym c.source_place-p.ensures)
      (source-small code n turn x y c.requires.0 c.requires.1 c.loop-x-test.true)

  sum : c.loop-x.sum + code / 2 ^ at % 2 * 2 ^ (y * n + x) % 2 ^ 64 ≡ from_bits (turned_bit n turn code) (y * n + (x + 1))
  sum =
      ap₂ (λ (s : ℕ) (p : Place). s + bit code (index_of n p) * 2 ^ (y * n + x) % 2 ^ 64) c.loop-x.invariant c.source_place-p.ensures
      ∙ next_turned_bit code n turn x y c.requires.0 c.requires.1 c.loop-x-test.true

  sum_fits : c.loop-x.sum + code / 2 ^ at % 2 * 2 ^ (y * n + x) % 2 ^ 64 < 2 ^ 64
  sum_fits = rw sum (next_below code n turn x y c.requires.0 c.requires.1 c.loop-x-test.true)

pub overflow_mul-sum : goal.overflow_mul-sum
overflow_mul-sum c = omega (arith, from-small (goal.at.overflow_mul-sum c).After-source_place-p)

pub overflow_add-sum : goal.overflow_add-sum
overflow_add-sum c = omega (arith, from-small (goal.at.overflow_add-sum c).After-source_place-p)

pub overflow_shr-sum : goal.overflow_shr-sum
overflow_shr-sum c = from-small (goal.at.overflow_shr-sum c).After-source_place-p

pub overflow_add-sum-in-loop-x-2 : goal.overflow_add-sum-in-loop-x-2
overflow_add-sum-in-loop-x-2 c = record { fits = sum_fits (goal.at.overflow_add-sum-in-loop-x-2 c).After-source_place-p }

pub loop-x-preserved : goal.loop-x-preserved
loop-x-preserved c = sum (goal.at.loop-x-preserved c).After-source_place-p
