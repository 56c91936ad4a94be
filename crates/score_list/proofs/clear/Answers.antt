-- `score_list::clear` meets its contract. The loop's invariant: the first i elements are 0. Assumes nothing.
use mathlib.Core.Path.{◌≡◌, refl}
use native.Mathlib.Omega.{arith}
use lib.Ieee.{of_bits}
use Rattle.floats.specs.Units.{nought}
use Rattle.lent_list.proofs.Scattered.{wrote_none, wrote_next}
use Rattle.score_list.proofs.clear.Goals as goal

pub loop-i-init : goal.loop-i-init
loop-i-init c = wrote_none c.args.adds.now (λ j h. absurd (omega (arith, h)))

pub loop-i-preserved : goal.loop-i-preserved
unfolding of_bits
loop-i-preserved c =
    wrote_next nought c.loop-i.invariant (λ j h e. absurd (omega (arith, h, e))) (omega (arith, c.loop-i-test.true)) refl

pub returns : goal.returns
returns c =
    let l = c.loop-i in
    let e : l.i ≡ 128 = omega (arith, c.loop-i-test.false) in
    rw e at l.invariant
