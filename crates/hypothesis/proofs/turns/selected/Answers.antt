-- `hypothesis::turns::selected` meets its contract. Assumes nothing.
use mathlib.Core.Path.{ap}
use lib.Ieee.{Float}
use Rattle.hypothesis.specs.declared.Selection.{Selection}
use Rattle.hypothesis.proofs.turns.selected.Goals as goal

pub returns : goal.returns
returns c =
    let a = c.args in
    let with : Float → Selection = λ x. record { best = a.best; runner_up = a.ranking.runner_up; total = a.ranking.total; margin = x } in
    ap with c.margin.ensures
