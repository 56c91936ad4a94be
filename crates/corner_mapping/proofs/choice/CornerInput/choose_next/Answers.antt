-- `corner_mapping::choice::CornerInput::choose_next` meets its contract: by whether corner k has an id. Assumes nothing.
use mathlib.Core.Path.{◌≡◌, sym, ◌∙◌}
use Prim.Native.Nat.{◌<◌}
use native.Mathlib.Omega.{arith}
use Rattle.corner_mapping.specs.Corners.{Input, id_of}
use Rattle.corner_mapping.specs.Entry.{input}
use Rattle.corner_mapping.proofs.Ids.{id_below, few-corners}
use Rattle.corner_mapping.proofs.Choices.{stored-below, chosen-same, chosen_more}
use Rattle.corner_mapping.proofs.choice.CornerInput.choose_next.Goals as goal
use Rattle.corner_mapping.proofs.choice.CornerInput.choose_next.Goals.{In-Some}
use Rattle.std.specs.Prelude.{Some}

-- corner k has an id
module _ (c : In-Some) where
  abbrev from : Input
  from = input c.args.self.board c.args.self.alignment c.args.self.scores.now c.args.self.grid.now

  id-is : id_of from.board from.alignment from.grid c.args.k ≡ Some c.in-Some.id
  id-is = sym c.id_of.ensures ∙ c.in-Some.is

  id-small : c.in-Some.id < 1024
  id-small =
      let r = c.args.self.in_range in
      omega (arith, id_below _ _ _ c.args.k c.in-Some.id id-is, few-corners from.board.rows from.board.cols r.rows r.cols)

pub bounds-choices-at : goal.bounds-choices-at
bounds-choices-at c = id-small (goal.at.bounds-choices-at c).In-Some

pub bounds-choices-at-in-Some : goal.bounds-choices-at-in-Some
bounds-choices-at-in-Some c = id-small (goal.at.bounds-choices-at-in-Some c).In-Some

pub better-requires : goal.better-requires
better-requires c =
    let at = (goal.at.better-requires c).In-Some in
    (c.requires.0, stored-below (from at) c.in-Some.id c.args.k _ (c.requires.1.at c.in-Some.id (id-small at)))

pub returns-in-Some : goal.returns-in-Some
returns-in-Some c =
    let at = (goal.at.returns-in-Some c).In-Some in
    chosen_more (from at) c.args.k _ c.requires.1 c.in-Some.id c.better.result c.told-choices (id-is at) (id-small at) c.better.ensures

pub returns-in_default : goal.returns-in_default
returns-in_default c = chosen-same _ c.args.k _ c.requires.1 (sym c.id_of.ensures ∙ c.in_default.is)
