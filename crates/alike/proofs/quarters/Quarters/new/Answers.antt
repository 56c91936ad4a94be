-- `alike::quarters::Quarters::new` meets its contract. The loop's invariant: the array holds the sources of the first k bits. Assumes nothing.
use mathlib.Core.Path.{◌≡◌, refl, ◌∙◌}
use Prim.Native.Nat.{◌<◌}
use native.Mathlib.Omega.{arith}
use lib.ListN.{get_or, set, length-set}
use lib.Seq.{get_or-set_same, get_or-set_other}
use borrow.Author.Count.{below_none, below_more}
use Rattle.alike.specs.Quarters.{quarter_source}
use Rattle.alike.proofs.QuarterTurns.{quarter-small}
use Rattle.alike.proofs.quarters.Quarters.new.Goals as goal
use Rattle.alike.proofs.quarters.Quarters.new.Goals.{In-loop-k}

pub overflow_mul-count : goal.overflow_mul-count
overflow_mul-count c = omega (arith, c.quarter-count.ensures, quarter-small c.args.bits c.requires.1)

pub loop-k-init : goal.loop-k-init
loop-k-init c = (refl, below_none _)

-- in the loop
small : (c : In-loop-k) → c.loop-k.k < 64
small c =
    omega (arith, c.loop-k-test.true, c.quarter-count.ensures, quarter-small c.args.bits c.requires.1)

pub source-requires : goal.source-requires
source-requires c = (c.requires.0, c.requires.1, small c)

pub loop-k-preserved : goal.loop-k-preserved
loop-k-preserved c =
    let bits = c.args.bits in
    let before = c.loop-k.sources in
    let held = c.loop-k.invariant in
    let k = c.loop-k.k in
    let x = c.source.result in (
      length-set before k x ∙ held.0,
      below_more (λ j. get_or (set before k x) j 0 ≡ quarter_source bits j) k
          (λ j h. get_or-set_other before k j x 0 (λ e. absurd (omega (arith, h, e))) ∙ held.1 j h)
          (get_or-set_same before k x 0 (rw held.0 (small (goal.at.loop-k-preserved c).In-loop-k)) ∙ c.source.ensures),
    )

pub quarter-count-requires : goal.quarter-count-requires
quarter-count-requires c = c.requires.1

pub bounds-sources-k : goal.bounds-sources-k
bounds-sources-k c = small (goal.at.bounds-sources-k c).In-loop-k
