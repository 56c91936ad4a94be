-- `score_list::cell_adds` meets its contract. Assumes nothing.
use mathlib.Core.Path.{◌≡◌, sym, ◌∙◌}
use mathlib.Core.List.{List}
use Prim.Native.Nat.{ℕ, ◌*◌, ◌≤◌, ◌<◌}
use lib.Ieee.{Float}
use native.Mathlib.Nat.{mul-le-mul}
use borrow.Author.Rules.{rules}
use Rattle.shot_record.specs.Shots.{shot}
use Rattle.shot_record.specs.Answers.{border_with}
use Rattle.shot_record.specs.Index.{border_in}
use Rattle.hypothesis.specs.declared.Inputs.{Inputs}
use Rattle.hypothesis.specs.Placements.{cell_total, cell}
use Rattle.hypothesis.specs.Inputs.{Ready}
use Rattle.hypothesis.proofs.IndexedCells.{has-grid, grid-whole, likelihoods_are, few_bits, search-input}
use Rattle.score_list.proofs.CellAdds.{unsampled_adds, sampled-grid, sampled_adds}
use Rattle.score_list.proofs.cell_adds.Goals as goal
use Rattle.score_list.proofs.cell_adds.Goals.{After-threshold-threshold, Start}
use Rattle.std.specs.Prelude.{Option, Some}

module _ (c : Start) where
  abbrev bytes : List ℕ
  bytes = c.args.loaded.now.bytes.now

  ready : Ready bytes c.args.loaded.now.inputs c.args.loaded.now.index.now
  ready = c.args.loaded.now.loaded.ready

-- the border that was looked up is the cell's
its_border : (bytes : List ℕ) (i : Inputs) (index : List ℕ) (k : ℕ) → Ready bytes i index → k < cell_total (shot bytes)
    → (b : Option Float) → b ≡ border_in index k → b ≡ border_with (cell (shot bytes) k).sample
its_border bytes i index k r h b e = e ∙ ((search-input bytes i index r).cells k h).border

area : {m : ℕ} → m ≤ 8 → m * m ≤ 64
area h = mul-le-mul {n₂ = 8} {m₂ = 8} h h

-- the sample of a sampled cell is looked up
has-border : (c : After-threshold-threshold) → border_with (cell (shot c.args.loaded.now.bytes.now) c.args.k).sample ≡ Some c.in-Some.field-0
has-border c =
    sym (its_border c.args.loaded.now.bytes.now _ _ c.args.k c.args.loaded.now.loaded.ready c.requires _ c.border.ensures) ∙ c.in-Some.is

pub grid-grid-requires : goal.grid-grid-requires
grid-grid-requires c = let b = (goal.at.grid-grid-requires c).Start in has-grid (bytes b) _ _ (ready b) c.args.k c.requires

pub bit_likelihoods-requires : goal.bit_likelihoods-requires
bit_likelihoods-requires c =
    let b = (goal.at.bit_likelihoods-requires c).Start in
    let few : c.args.loaded.now.inputs.board.bits ≤ 8 = few_bits (bytes b) _ _ (ready b) in
    let border = has-border (goal.at.bit_likelihoods-requires c).After-threshold-threshold in record {
      bits_bound = search rules;
      grid_len = grid-whole (bytes b) _ _ (ready b) c.args.k c.requires c.threshold-threshold.result c.grid-grid.result.now
          c.threshold-threshold.ensures c.grid-grid.ensures (sampled-grid (shot (bytes b)) c.args.k c.in-Some.field-0 border (ready b).passed);
    }

pub returns-in-None : goal.returns-in-None
returns-in-None c =
    let b = (goal.at.returns-in-None c).Start in
    let none = sym (its_border (bytes b) _ _ c.args.k (ready b) c.requires _ c.border.ensures) ∙ c.in-None.is in
    unsampled_adds (shot (bytes b)) c.args.k _ c.clear.new.adds (area (few_bits (bytes b) _ _ (ready b))) c.clear.ensures.done none

pub returns-in-Some : goal.returns-in-Some
returns-in-Some c =
    let b = (goal.at.returns-in-Some c).Start in
    let a = c.args.loaded.now in
    let n = a.inputs.board.bits * a.inputs.board.bits in
    let done = c.bit_likelihoods in
    sampled_adds (shot (bytes b)) c.args.k c.in-Some.field-0 (has-border (goal.at.returns-in-Some c).After-threshold-threshold) n done.new.likelihoods
    (likelihoods_are (bytes b) _ _ (ready b) c.args.k c.requires c.threshold-threshold.result c.grid-grid.result.now
    c.threshold-threshold.ensures c.grid-grid.ensures a.table.now a.loaded.table_is n done.new.likelihoods done.ensures.holds)
