-- `refusal_values::number_in` meets its contract: by cases of the result. Assumes nothing.
use mathlib.Core.Path.{sym, ap, ◌∙◌}
use Rattle.refusal_values.specs.Values.{number_in}
use Rattle.refusal_values.proofs.number_in.Goals as goal

pub returns-in-Err : goal.returns-in-Err
returns-in-Err c = c.number.ensures ∙ sym (ap number_in c.in-Err.is)
