-- `hypothesis::fill::likelihoods` meets its contract. Assumes nothing.
use mathlib.Core.Path.{◌≡◌, refl, sym, ap, ◌∙◌}
use mathlib.Core.Bool.{true, false≢true}
use mathlib.Core.List.{List}
use Prim.Native.Nat.{ℕ, ◌*◌, ◌≤◌}
use borrow.Author.Rules.{rules}
use lib.Ieee.{of_bits, of_fields, odd, lt}
use Rattle.floats.specs.Units.{nought}
use Rattle.shot_record.specs.Shots.{shot}
use Rattle.hypothesis.specs.Evidence.{weight_of}
use Rattle.hypothesis.specs.Inputs.{Ready}
use Rattle.hypothesis.proofs.IndexedCells.{has-grid, grid-whole, likelihoods_are, few_bits}
use Rattle.hypothesis.proofs.CountedCells.{whole_grid_lem}
use Rattle.hypothesis.proofs.fill.likelihoods.Goals as goal
use Rattle.hypothesis.proofs.fill.likelihoods.Goals.{Else-not-weight}

pub returns-then-not-weight : goal.returns-then-not-weight
unfolding of_bits of_fields odd
returns-then-not-weight c = record {
  holds = λ t. absurd (false≢true (sym (c.if-not-weight.true) ∙ t));
  rest = λ i h. refl;
}

module _ (c : Else-not-weight) where
  abbrev bytes : List ℕ
  bytes = c.args.loaded.now.bytes.now

  abbrev k : ℕ
  k = c.args.k

  ready : Ready bytes c.args.loaded.now.inputs c.args.loaded.now.index.now
  ready = c.args.loaded.now.loaded.ready

  heavy : lt nought (weight_of (shot bytes) k) ≡ true
  unfolding of_bits of_fields odd
  heavy = ap (lt nought) (sym c.requires.1) ∙ c.if-not-weight.false

pub grid-grid-requires : goal.grid-grid-requires
grid-grid-requires c =
    let e = (goal.at.grid-grid-requires c).Else-not-weight in has-grid (bytes e) _ _ (ready e) (k e) c.requires.0

pub threshold-threshold-requires : goal.threshold-threshold-requires
threshold-threshold-requires c =
    let e = (goal.at.threshold-threshold-requires c).Else-not-weight in (has-grid (bytes e) _ _ (ready e) (k e) c.requires.0).early

pub bit_likelihoods-requires : goal.bit_likelihoods-requires
bit_likelihoods-requires c =
    let e = (goal.at.bit_likelihoods-requires c).Else-not-weight in
    let few : c.args.loaded.now.inputs.board.bits ≤ 8 = few_bits (bytes e) _ _ (ready e) in record {
      bits_bound = search rules;
      grid_len = grid-whole (bytes e) _ _ (ready e) (k e) c.requires.0 c.threshold-threshold.result c.grid-grid.result.now
          c.threshold-threshold.ensures c.grid-grid.ensures (whole_grid_lem (shot (bytes e)) (k e) (ready e).passed (heavy e));
    }

pub returns : goal.returns
returns c =
    let e = (goal.at.returns c).Else-not-weight in
    let a = c.args.loaded.now in
    let done = c.bit_likelihoods in record {
      holds = λ h. likelihoods_are (bytes e) _ _ (ready e) (k e) c.requires.0 c.threshold-threshold.result c.grid-grid.result.now
          c.threshold-threshold.ensures c.grid-grid.ensures a.table.now a.loaded.table_is (a.inputs.board.bits * a.inputs.board.bits)
          done.new.likelihoods done.ensures.holds;
      rest = done.ensures.rest;
    }
