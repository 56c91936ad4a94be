-- `refusal_values::minimum_in` meets its contract: by cases of the header. Assumes nothing.
use mathlib.Core.Path.{sym, ap, ◌∙◌}
use Rattle.refusal_values.specs.Values.{minimum_in}
use Rattle.refusal_values.proofs.minimum_in.Goals as goal

pub returns-in-Ok : goal.returns-in-Ok
returns-in-Ok c = c.to_bits.ensures ∙ sym (ap minimum_in c.in-Ok.is)
