-- `corner_mapping::choice::CornerInput::choose` meets its contract. The loop's invariant: the choices among the first k corners are stored.
-- Assumes nothing.
use mathlib.Core.Path.{◌≡◌, sym}
use native.Mathlib.Omega.{arith}
use lib.ListN.{length}
use Rattle.corner_mapping.proofs.Choices.{chosen-first}
use Rattle.corner_mapping.proofs.choice.CornerInput.choose.Goals as goal

pub loop-k-init : goal.loop-k-init
loop-k-init c = chosen-first _

pub returns : goal.returns
returns c =
    let all : c.loop-k.k ≡ length c.args.self.scores.now = omega arith in
    rw (sym all) c.loop-k.invariant
