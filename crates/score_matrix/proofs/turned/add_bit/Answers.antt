-- `score_matrix::turned::add_bit` meets its contract. The loop's invariant: the first x scores have the bit added. Assumes nothing.
use mathlib.Core.Path.{◌≡◌, sym, ap, ap₂, ◌∙◌}
use mathlib.Core.List.{List}
use Prim.Native.Nat.{ℕ, zero, suc, ◌+◌, ◌*◌, ◌/◌, ◌%◌, ◌^◌, ◌<◌}
use native.Mathlib.Nat.{le_refl, zero-add, one-mul, add_comm, mul_comm, div-add-mod}
use native.Mathlib.Omega.{arith}
use lib.Dec.{lit<}
use lib.ListN.{get_or, set, length-set}
use lib.Pow.{shr-shr, shl_exact}
use lib.Seq.{get_or-set_same, get_or-set_other}
use lib.Ieee.{Float, nan, binary32, add}
use borrow.Author.Count.{below_more}
use Rattle.matcher.specs.Codes.{bit}
use Rattle.matcher.proofs.Bits.{bit-under}
use Rattle.score_matrix.specs.Likelihoods.{by_bit, lane_code}
use Rattle.score_matrix.proofs.turned.add_bit.Goals as goal
use Rattle.score_matrix.proofs.turned.add_bit.Goals.{After-chosen, Start}

-- bit 32 q + r of the code at lane x is bit r of the half that starts at lane 8 q
half-bit : (lanes : List ℕ) (x q r : ℕ) → q < 2 → r < 32 → get_or lanes x 0 < 2 ^ 32 → bit (get_or lanes (8 * q + x) 0) r ≡ bit (lane_code lanes x) (32 * q + r)
half-bit lanes x zero r h k l =
    let high = get_or lanes (x + 8) 0 in
    rw (zero-add x, zero-add r, mul_comm (2 ^ 32) high) (sym (bit-under (get_or lanes x 0) high 32 r k))
half-bit lanes x (suc zero) r h k l =
    let low = get_or lanes x 0 in
    let code : (2 ^ 32 * get_or lanes (8 + x) 0 + low) / 2 ^ 32 ≡ get_or lanes (8 + x) 0 = omega arith in
    rw (add_comm low, add_comm x 8, ← shr-shr, code)
half-bit lanes x (suc (suc q)) r h k l = absurd (omega arith)

-- in the loop
module _ (c : After-chosen) where
  abbrev lanes : List ℕ
  lanes = c.args.lanes.now

  abbrev s : ℕ
  s = c.args.s

  abbrev x : ℕ
  x = c.loop-x.x

  bit_is : bit (get_or lanes (8 * (s / 32) + x) 0) (s % 32) ≡ bit (lane_code lanes x) s
  bit_is =
      half-bit lanes x (s / 32) (s % 32) (omega (arith, c.requires)) (omega arith) (c.fits-lanes x)
      ∙ ap (bit (lane_code lanes x)) (div-add-mod s 32)

  chosen_is : c.chosen.result ≡ by_bit (bit (lane_code lanes x) s) c.args.clear c.args.set
  chosen_is =
      c.chosen.ensures (s % 32) (shl_exact 1 (s % 32) 32 (lit< tt) (omega arith) ∙ one-mul (2 ^ (s % 32)))
      ∙ ap (λ (b : ℕ). by_bit b c.args.clear c.args.set) bit_is

pub loop-x-preserved : goal.loop-x-preserved
loop-x-preserved c =
    let l = c.loop-x in
    let a = c.args in
    let v : Float = add binary32 (get_or l.sums l.x nan) c.chosen.result in (
      length-set l.sums l.x v ∙ l.invariant.0,
      below_more
          (λ i. get_or (set l.sums l.x v) i nan ≡ add binary32 (get_or a.sums.now i nan) (by_bit (bit (lane_code c.args.lanes.now i) a.s) a.clear a.set))
          l.x
          (λ i h. get_or-set_other l.sums l.x i v nan (λ e. absurd (omega (arith, h, e))) ∙ l.invariant.1 i h)
          (get_or-set_same l.sums l.x v nan (omega arith) ∙ ap₂ (add binary32) (l.invariant.2 l.x (le_refl l.x)) (chosen_is (goal.at.loop-x-preserved c).After-chosen)),
      λ i h. get_or-set_other l.sums l.x i v nan (λ e. absurd (omega (arith, h, e))) ∙ l.invariant.2 i (omega (arith, h)),
    )

pub returns : goal.returns
returns c x h = c.loop-x.invariant.1 x (omega (arith, h, c.loop-x-test.false))
