-- `grid_alignment::turned` meets its contract: the entries of a turn's matrix are small factors. Assumes nothing.
use mathlib.Core.Path.{sym, ap₂, ◌∙◌, subst}
use mir.Syntax.{w16}
use mir.ValLaws.{to_z-of_z}
use Rattle.integers.proofs.Words.{read_back}
use Rattle.grid_alignment.specs.Alignment.{point}
use Rattle.grid_alignment.proofs.Entries.{Small, entries_small, combined, combined_is}
use Rattle.grid_alignment.proofs.turned.Goals as goal
use Rattle.grid_alignment.proofs.turned.Goals.{After-turn_matrix-m}

small : (c : After-turn_matrix-m) → Small c.turn_matrix-m.result
small c = subst Small (sym c.turn_matrix-m.ensures) (entries_small c.args.turn)

pub returns : goal.returns
returns c =
    let one = c.combine in
    let two = c.combine-2 in
    let u = to_z-of_z w16 c.args.u c.ranges.u in
    let v = to_z-of_z w16 c.args.v c.ranges.v in
    ap₂ point (read_back one.result one.type_inv ∙ one.ensures) (read_back two.result two.type_inv ∙ two.ensures)
    ∙ (λ i. combined (c.turn_matrix-m.ensures i) (u i) (v i))
    ∙ combined_is c.args.turn c.args.u c.args.v

pub combine-requires : goal.combine-requires
combine-requires c = (small (goal.at.combine-requires c).After-turn_matrix-m).0

pub combine-requires-2 : goal.combine-requires-2
combine-requires-2 c = (small (goal.at.combine-requires-2 c).After-turn_matrix-m).1
