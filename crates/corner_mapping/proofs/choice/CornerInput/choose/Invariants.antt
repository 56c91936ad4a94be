-- `corner_mapping::choice::CornerInput::choose` meets its contract. The loop's invariant: the choices among the first k corners are stored.
-- Assumes nothing.
use Rattle.corner_mapping.specs.Entry.{input}
use Rattle.corner_mapping.specs.Inner.{ChoicesHeld}
use Rattle.corner_mapping.proofs.choice.CornerInput.choose.Given as goal

abbrev pub invariant-loop-k : goal.invariant-loop-k
invariant-loop-k l = ChoicesHeld (input l.self.board l.self.alignment l.self.scores.now l.self.grid.now) l.k l.choices
