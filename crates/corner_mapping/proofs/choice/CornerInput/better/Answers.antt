-- `corner_mapping::choice::CornerInput::better` meets its contract: by its two tests. Assumes nothing.
use native.Mathlib.Omega.{arith}
use Rattle.corner_mapping.proofs.Choices.{first, takes, keeps}
use Rattle.corner_mapping.proofs.choice.CornerInput.better.Goals as goal

pub returns-then-choice-eq0 : goal.returns-then-choice-eq0
returns-then-choice-eq0 c = first _ c.args.k c.args.choice c.if-choice-eq0.true

pub returns-then-self-from : goal.returns-then-self-from
returns-then-self-from c = takes _ c.args.k c.args.choice (omega arith) (rw c.from.ensures at c.if-self-from.true)

pub returns : goal.returns
returns c = keeps _ c.args.k c.args.choice (omega arith) (rw c.from.ensures at c.if-self-from.false)
