-- `score_matrix::cell::read_code` meets its contract. The loop's invariant: `code` has the first k bits, and `p` is the place of the next.
-- Assumes nothing.
use mathlib.Core.Path.{◌≡◌, refl, ap, ap₂, ◌∙◌}
use mathlib.Core.Bool.{Bool, true, false, cond}
use Prim.Native.Nat.{ℕ, ◌+◌, ◌*◌, ◌%◌, ◌^◌, ◌<◌}
use native.Mathlib.Omega.{arith}
use lib.Dec.{ltb}
use lib.ListN.{get_or}
use mir.Val.{bool_byte}
use Rattle.matcher.specs.Codes.{from_bits}
use Rattle.matcher.proofs.Bits.{Bits, next_bit, word_below}
use Rattle.score_matrix.specs.Scores.{Samples, samples, grey, read_bit}
use Rattle.score_matrix.proofs.Places.{Here, here, first-place, index-inside, read_grey}
use Rattle.score_matrix.proofs.cell.read_code.Goals as goal
use Rattle.score_matrix.proofs.cell.read_code.Goals.{After-from, In-loop-k}

read_bits : (s : Samples) → Bits (read_bit s)
read_bits s k = go (ltb (grey s k) s.threshold)
  where
    go : (b : Bool) → cond b 1 0 < 2
    go true = omega arith
    go false = omega arith

pub loop-k-init : goal.loop-k-init
unfolding from_bits
loop-k-init c = (first-place c.args.bits, refl)

-- in the loop
at : (c : In-loop-k) → Here c.args.bits c.loop-k.k c.loop-k.p
at c = here c.args.bits c.loop-k.k c.loop-k.p c.requires.bits_bound c.loop-k-test.true c.loop-k.invariant.0

pub grid_index-requires : goal.grid_index-requires
grid_index-requires c = (c.requires.bits_bound, omega (arith, c.ranges.border.fits), (at c).inside.column, (at c).inside.row)

pub bounds-grid-grid_index : goal.bounds-grid-grid_index
bounds-grid-grid_index c =
    rw (c.grid_index.ensures, c.requires.grid_len)
    (index-inside c.args.bits c.args.border c.loop-k.p (at (goal.at.bounds-grid-grid_index c).In-loop-k).inside)

pub next_place-p-requires : goal.next_place-p-requires
next_place-p-requires c =
    let h = (at (goal.at.next_place-p-requires c).In-loop-k).inside in
    (c.requires.bits_bound, h.column, h.row)

-- a test as a number
as_number : (b : Bool) → bool_byte b ≡ cond b 1 0
as_number true = refl
as_number false = refl

-- after the bit is read
module _ (c : After-from) where
  abbrev cell : Samples
  cell = samples c.args.bits c.args.border c.args.threshold c.args.grid.now

  small : c.loop-k.k < 64
  small = (here c.args.bits c.loop-k.k c.loop-k.p c.requires.bits_bound c.loop-k-test.true c.loop-k.invariant.0).small

  bit : c.from.result ≡ read_bit cell c.loop-k.k
  bit =
      c.from.ensures ∙ as_number (ltb (get_or c.args.grid.now c.grid_index.result 0) c.args.threshold)
      ∙ ap (λ (g : ℕ). cond (ltb g c.args.threshold) 1 0)
      (read_grey cell c.loop-k.k c.grid_index.result c.loop-k.p c.grid_index.ensures c.loop-k.invariant.0)

  code : c.loop-k.code + c.from.result * 2 ^ c.loop-k.k % 2 ^ 64 ≡ from_bits (read_bit cell) (c.loop-k.k + 1)
  code =
      ap₂ (λ (a b : ℕ). a + b * 2 ^ c.loop-k.k % 2 ^ 64) c.loop-k.invariant.1 bit ∙ next_bit (read_bit cell) (read_bits cell) c.loop-k.k small

pub overflow_add-code : goal.overflow_add-code
overflow_add-code c =
    record { fits = rw (code c) (word_below (read_bit (cell c)) (read_bits (cell c)) (c.loop-k.k + 1) (omega (arith, small c))) }

pub loop-k-preserved : goal.loop-k-preserved
loop-k-preserved c = (c.next_place-p.ensures c.loop-k.k c.loop-k.invariant.0, code (goal.at.loop-k-preserved c).After-from)
