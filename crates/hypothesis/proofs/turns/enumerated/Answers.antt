-- `hypothesis::turns::enumerated` meets its contract. Assumes nothing.
use mathlib.Core.Path.{sym, ap, ◌∙◌}
use Rattle.grid_alignment.specs.declared.GridAlignment.{GridAlignment}
use Rattle.hypothesis.specs.declared.Inputs.{Inputs}
use Rattle.hypothesis.specs.declared.Selection.{Selection}
use Rattle.hypothesis.specs.Capacity.{capacity_to}
use Rattle.hypothesis.specs.Turns.{selection_of, enumerated_with}
use Rattle.hypothesis.proofs.turns.enumerated.Goals as goal
use Rattle.std.specs.Prelude.{List, ℕ, Float, Option, Some}
use Rattle.ranking.specs.declared.Hypothesis.{Hypothesis}

pub capacity-best_capacity-requires : goal.capacity-best_capacity-requires
capacity-best_capacity-requires c = (c.requires.0, c.requires.1 c.in_ok-best.best c.in_ok-best.was)

abbrev capacity_at : Inputs → List ℕ → GridAlignment → Float
capacity_at i index p = capacity_to i p index i.cells

pub returns-in_err-best : goal.returns-in_err-best
returns-in_err-best c =
    let x = c.args in
    c.from_residual.ensures ∙ sym (ap (λ (o : Option Hypothesis). enumerated_with x.ranking o (capacity_at x.inputs x.index.now)) c.in_err-best.was)

pub returns : goal.returns
returns c =
    let x = c.args in
    ap (λ (y : Selection). Some y) (c.selected.ensures ∙ ap (selection_of x.ranking c.in_ok-best.best) c.capacity-best_capacity.ensures)
    ∙ sym (ap (λ (o : Option Hypothesis). enumerated_with x.ranking o (capacity_at x.inputs x.index.now)) c.in_ok-best.was)
