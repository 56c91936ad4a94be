-- `hypothesis::fill::fill` meets its contract. The loop's invariant: the sums are those of the first k cells. Assumes nothing.
use mathlib.Core.Path.{◌≡◌, subst}
use Prim.Native.Nat.{ℕ, ◌*◌, ◌≤◌, ◌<◌}
use native.Mathlib.Omega.{arith}
use Rattle.shot_record.specs.Shots.{Shot, shot}
use Rattle.hypothesis.specs.Placements.{cell_total}
use Rattle.hypothesis.specs.Inputs.{SearchInput}
use Rattle.hypothesis.specs.Filling.{Turning, SumsTo}
use Rattle.hypothesis.proofs.IndexedCells.{cells_are, few_bits, search-input}
use Rattle.hypothesis.proofs.Moves.{fits-small}
use Rattle.hypothesis.proofs.Summed.{summed, both-above, none_summed, begins}
use Rattle.hypothesis.proofs.CountedCells.{few_moves, can_count, its_weight, sources_small, its_scores, stays_on, sums_with}
use Rattle.hypothesis.proofs.fill.fill.Goals as goal
use Rattle.hypothesis.proofs.fill.fill.Goals.{After-counted-cell, In-loop-k, Start}

module _ (c : Start) where
  abbrev s : Shot
  s = shot c.args.loaded.now.bytes.now

  input : SearchInput s c.args.loaded.now.inputs c.args.loaded.now.index.now
  input = search-input c.args.loaded.now.bytes.now _ _ c.args.loaded.now.loaded.ready

  few : c.args.t.across * c.args.t.down ≤ 1024
  few = few_moves s _ _ input c.args.t c.requires

pub overflow_mul-moves : goal.overflow_mul-moves
overflow_mul-moves c = fits-small (c.args.t.across * c.args.t.down) (omega (arith, few (goal.at.overflow_mul-moves c).Start))

pub returns-then-moves-eq0 : goal.returns-then-moves-eq0
returns-then-moves-eq0 c =
    none_summed (s (goal.at.returns-then-moves-eq0 c).Start) c.args.t c.requires c.if-moves-eq0.true c.args.sums.now _

pub clear-requires : goal.clear-requires
clear-requires c = few (goal.at.clear-requires c).Start

pub source_bits-sources-requires : goal.source_bits-sources-requires
source_bits-sources-requires c = few_bits c.args.loaded.now.bytes.now _ _ c.args.loaded.now.loaded.ready

pub loop-k-init : goal.loop-k-init
loop-k-init c = begins (s (goal.at.loop-k-init c).Start) c.args.t c.requires c.clear.new.sums c.clear.ensures

-- cell k of the shot
module _ (c : In-loop-k) where
  turning : Turning (shot c.args.loaded.now.bytes.now) c.args.loaded.now.inputs c.args.loaded.now.index.now c.args.t
  turning =
      record { input = input (goal.at.In-loop-k c).Start; is = c.requires; fits = both-above c.args.t.across c.args.t.down c.if-moves-eq0.false }

  inside : c.loop-k.k < cell_total (shot c.args.loaded.now.bytes.now)
  inside = omega (arith, c.loop-k-test.true, cells_are (shot c.args.loaded.now.bytes.now) c.args.loaded.now.inputs turning.input.is)

pub counted-cell-requires : goal.counted-cell-requires
counted-cell-requires c =
    let l = (goal.at.counted-cell-requires c).In-loop-k in can_count (shot c.args.loaded.now.bytes.now) _ _ c.args.t (turning l) c.loop-k.k (inside l)

pub likelihoods-requires : goal.likelihoods-requires
likelihoods-requires c =
    let l = (goal.at.likelihoods-requires c).In-loop-k in (
      inside l,
      its_weight (shot c.args.loaded.now.bytes.now) _ _ c.args.t (turning l) c.loop-k.k (inside l) c.counted-cell.result c.counted-cell.ensures,
    )

pub add_counted-contributing-requires : goal.add_counted-contributing-requires
add_counted-contributing-requires c =
    let l = (goal.at.add_counted-contributing-requires c).In-loop-k in
    let bytes = c.args.loaded.now.bytes.now in
    let t = turning l in
    let sums = c.loop-k.invariant in
    let below : c.loop-k.k < 256 = (can_count (shot bytes) _ _ c.args.t t c.loop-k.k (inside l)).4 in (
      stays_on (shot bytes) _ _ c.args.t t c.loop-k.k (inside l) c.counted-cell.result c.counted-cell.ensures,
      sources_small (shot bytes) _ _ c.args.t t c.loop-k.k (inside l) c.counted-cell.result c.counted-cell.ensures c.source_bits-sources.result
          c.source_bits-sources.ensures,
      few (goal.at.add_counted-contributing-requires c).Start,
      omega (arith, sums.few.0, below),
      omega (arith, sums.few.1, below),
    )

pub loop-k-preserved : goal.loop-k-preserved
loop-k-preserved c =
    let l = (goal.at.loop-k-preserved c).In-loop-k in
    let shot_in = c.args.loaded.now in
    let adds = c.likelihoods in
    sums_with (shot shot_in.bytes.now) _ _ c.args.t (turning l) c.loop-k.k (inside l) c.counted-cell.result c.counted-cell.ensures _
    (λ heavy. its_scores (shot shot_in.bytes.now) _ _ c.args.t (turning l) c.loop-k.k (inside l) c.counted-cell.result c.counted-cell.ensures
    c.source_bits-sources.result c.source_bits-sources.ensures shot_in.codes.now shot_in.loaded.codes_are adds.new.adds (adds.ensures.holds heavy))
    c.loop-k.sums c.add_counted-contributing.new.sums c.loop-k.contributing c.add_counted-contributing.result c.add_counted-contributing.ensures
    c.loop-k.invariant

pub returns : goal.returns
returns c =
    let e = c.loop-k in
    let b = (goal.at.returns c).Start in
    let last : e.k ≡ cell_total (s b) = omega (arith, c.loop-k-test.false, c.loop-k.auto.k-end, cells_are (s b) c.args.loaded.now.inputs (input b).is) in
    summed (s b) c.args.t.turn e.sums e.contributing
    (subst (λ (n : ℕ). SumsTo (s b) c.args.t.turn n e.sums e.contributing) last e.invariant)
