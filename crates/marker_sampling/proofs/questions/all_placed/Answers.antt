-- `marker_sampling::questions::all_placed` meets its contract. The loop's invariant: the first k corners are in range. Assumes nothing.
use mathlib.Core.Path.{sym, ap}
use mathlib.Core.Bool.{not}
use Rattle.integers.proofs.Tests.{none_tested, one_more, one_out}
use Rattle.marker_sampling.proofs.questions.all_placed.Goals as goal

pub loop-k-init : goal.loop-k-init
loop-k-init c = none_tested _

pub returns-then-not-placed : goal.returns-then-not-placed
returns-then-not-placed c = one_out _ _ c.loop-k.k _ c.loop-k-test.true (sym c.placed.ensures) (ap not c.if-not-placed.true)

pub loop-k-preserved : goal.loop-k-preserved
loop-k-preserved c = one_more _ c.loop-k.k _ c.loop-k.invariant (sym c.placed.ensures) (ap not c.if-not-placed.false)
