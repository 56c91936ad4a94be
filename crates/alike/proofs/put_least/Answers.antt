-- `alike::put_least` meets its contract. The loop's invariant: the array holds the canonical keys of the first k codes. Assumes nothing.
use mathlib.Core.Path.{◌≡◌, ap₂, ◌∙◌}
use Prim.Native.Nat.{◌<◌}
use native.Mathlib.Omega.{arith}
use lib.ListN.{get_or, set, length-set}
use lib.Seq.{get_or-set_same, get_or-set_other}
use borrow.Author.Count.{below_none, below_more}
use Rattle.alike.specs.Quarters.{least_turn}
use Rattle.alike.proofs.put_least.Goals as goal
use Rattle.alike.proofs.put_least.Goals.{After-least_turn}

pub loop-k-init : goal.loop-k-init
loop-k-init c = (c.told-least, below_none _)

-- in the loop
inside : (c : After-least_turn) → c.loop-k.k < 512
inside c = omega (arith, c.loop-k-test.true, c.requires.2)

pub loop-k-preserved : goal.loop-k-preserved
loop-k-preserved c =
    let x = c.args in
    let before = c.loop-k.least in
    let held = c.loop-k.invariant in
    let k = c.loop-k.k in
    let y = c.least_turn.result in (
      length-set before k y ∙ held.0,
      below_more (λ j. get_or (set before k y) j 0 ≡ least_turn x.bits (get_or x.codes.now j 0)) k
          (λ j h. get_or-set_other before k j y 0 (λ e. absurd (omega (arith, h, e))) ∙ held.1 j h)
          (get_or-set_same before k y 0 (rw held.0 (inside (goal.at.loop-k-preserved c).After-least_turn))
          ∙ c.least_turn.ensures
          ∙ ap₂ least_turn c.new-quarters.ensures c.code_at.ensures),
    )

pub returns : goal.returns
returns c k h = c.loop-k.invariant.1 k (omega (arith, h, c.loop-k-test.false, c.loop-k.auto.k-end))

pub new-quarters-requires : goal.new-quarters-requires
new-quarters-requires c = (c.requires.0, c.requires.1)

pub bounds-least-k : goal.bounds-least-k
bounds-least-k c = inside (goal.at.bounds-least-k c).After-least_turn
