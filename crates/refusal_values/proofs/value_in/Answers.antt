-- `refusal_values::value_in` meets its contract: by cases of the result. Assumes nothing.
use mathlib.Core.Path.{sym, ap, ◌∙◌}
use Rattle.refusal_values.specs.Values.{value_in}
use Rattle.refusal_values.proofs.value_in.Goals as goal
use Rattle.std.specs.Prelude.{Result}
use Rattle.board_match.specs.declared.Match.{Match}
use Rattle.refusal.specs.declared.Refusal.{Refusal}

pub returns-in-Err : goal.returns-in-Err
returns-in-Err c =
    c.value.ensures ∙ sym (ap (λ (a : Result Match Refusal). value_in a c.args.k) c.in-Err.is)
