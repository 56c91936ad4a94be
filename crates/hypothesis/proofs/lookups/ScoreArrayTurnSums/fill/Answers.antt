-- `ScoreArray::fill` meets its contract. The loop's invariant: the sums are those of the first k cells, of every shot whose scores the array
-- has. Assumes nothing.
use mathlib.Core.Path.{◌≡◌, sym, ap, subst, ◌∙◌}
use Prim.Native.Nat.{ℕ, ◌+◌, ◌*◌, ◌≤◌, ◌<◌}
use native.Mathlib.Nat.{mul-le-mul}
use native.Mathlib.Omega.{arith}
use lib.Ieee.{lt}
use Rattle.floats.specs.Units.{nought}
use Rattle.board.specs.Layout.{marker_total}
use Rattle.shot_record.specs.Shots.{Shot}
use Rattle.hypothesis.specs.Placements.{cell_total}
use Rattle.hypothesis.specs.Turns.{turn_of}
use Rattle.hypothesis.specs.Filling.{Turning, SumsTo}
use Rattle.hypothesis.specs.ScoreList.{marker_total_in, Scored}
use Rattle.hypothesis.proofs.IndexedCells.{cells_are, board-is}
use Rattle.hypothesis.proofs.Moves.{fits-small}
use Rattle.hypothesis.proofs.Summed.{summed, both-above, none_summed, begins}
use Rattle.hypothesis.proofs.ScoreLists.{few-markers, in_scores, found_scores}
use Rattle.hypothesis.proofs.CountedCells.{few_moves, can_count, its_weight, its_board, stays_on, sums_with}
use Rattle.hypothesis.proofs.lookups.ScoreArrayTurnSums.fill.Goals as goal
use Rattle.hypothesis.proofs.lookups.ScoreArrayTurnSums.fill.Goals.{After-add_counted-contributing, After-counted-cell, After-marker_count-markers, Else-moves-eq0, In-loop-k, Start}

-- so many moves are few
few : (c : Start) → c.args.t.across * c.args.t.down ≤ 1024
few c = few_moves c.requires.0 c.args.self.now.inputs c.args.self.now.index.now c.requires.1.input c.args.t c.requires.2

pub overflow_mul-moves : goal.overflow_mul-moves
overflow_mul-moves c = fits-small (c.args.t.across * c.args.t.down) (omega (arith, few (goal.at.overflow_mul-moves c).Start))

pub returns-then-moves-eq0 : goal.returns-then-moves-eq0
returns-then-moves-eq0 c =
    λ s fit is. none_summed s c.args.t is c.if-moves-eq0.true c.args.sums.now _

pub clear-requires : goal.clear-requires
clear-requires c = few (goal.at.clear-requires c).Start

pub loop-k-init : goal.loop-k-init
loop-k-init c =
    λ s fit is. begins s c.args.t is c.clear.new.sums c.clear.ensures

module _ (c : In-loop-k) where
  abbrev k : ℕ
  k = c.loop-k.k

  -- for every such shot
  module _ (s : Shot) (fit : Scored s c.args.self.now.inputs c.args.self.now.index.now c.args.self.now.scores.now) (is : c.args.t ≡ turn_of s c.args.t.turn) where
    turning : Turning s c.args.self.now.inputs c.args.self.now.index.now c.args.t
    turning = record { input = fit.input; is = is; fits = both-above c.args.t.across c.args.t.down c.if-moves-eq0.false }

    inside : k < cell_total s
    inside = omega (arith, c.loop-k-test.true, cells_are s c.args.self.now.inputs fit.input.is)

    markers-are : c.marker_count-markers.result ≡ marker_total_in s
    markers-are = c.marker_count-markers.ensures ∙ ap marker_total (board-is s c.args.self.now.inputs fit.input.is)

  abbrev turning₁ : Turning c.requires.0 c.args.self.now.inputs c.args.self.now.index.now c.args.t
  turning₁ = turning c.requires.0 c.requires.1 c.requires.2

  abbrev inside₁ : k < cell_total c.requires.0
  inside₁ = inside c.requires.0 c.requires.1 c.requires.2

  early : k < 256
  early = (can_count c.requires.0 c.args.self.now.inputs c.args.self.now.index.now c.args.t turning₁ k inside₁).4

  few_here : c.marker_count-markers.result ≤ 512
  few_here =
      let p = c.requires.1.input.passed in
      omega (arith, markers-are c.requires.0 c.requires.1 c.requires.2, few-markers c.requires.0 p.rows p.cols)

  -- the index of the cell's first score is small
  small : k * c.marker_count-markers.result ≤ 131072
  small = mul-le-mul {n₂ = 256} {m₂ = 512} (omega (arith, early)) few_here

pub counted-cell-requires : goal.counted-cell-requires
counted-cell-requires c = can_count c.requires.0 c.args.self.now.inputs c.args.self.now.index.now c.args.t (turning₁ (goal.at.counted-cell-requires c).In-loop-k) c.loop-k.k (inside₁ (goal.at.counted-cell-requires c).In-loop-k)

pub overflow_mul-first : goal.overflow_mul-first
overflow_mul-first c = record { fits = omega (arith, small (goal.at.overflow_mul-first c).In-loop-k) }

pub overflow_mul-first-in-loop-k : goal.overflow_mul-first-in-loop-k
overflow_mul-first-in-loop-k c = record { fits = omega (arith, small (goal.at.overflow_mul-first-in-loop-k c).In-loop-k) }

pub overflow_add-first : goal.overflow_add-first
overflow_add-first c = record { fits = omega (arith, small (goal.at.overflow_add-first c).In-loop-k, c.requires.3) }

-- the index of the cell's first score
first-is : (c : In-loop-k) (s : Shot) (fit : Scored s c.args.self.now.inputs c.args.self.now.index.now c.args.self.now.scores.now) (is : c.args.t ≡ turn_of s c.args.t.turn)
    → 4 * (c.loop-k.k * c.marker_count-markers.result) + c.args.t.turn ≡ 4 * (c.loop-k.k * marker_total_in s) + c.args.t.turn
first-is c s fit is = ap (λ (m : ℕ). 4 * (c.loop-k.k * m) + c.args.t.turn) (markers-are c s fit is)

pub add_counted-contributing-requires : goal.add_counted-contributing-requires
add_counted-contributing-requires c =
    let l = (goal.at.add_counted-contributing-requires c).In-loop-k in
    let sums = c.loop-k.invariant c.requires.0 c.requires.1 c.requires.2 in (
      stays_on c.requires.0 c.args.self.now.inputs c.args.self.now.index.now c.args.t (turning₁ l) c.loop-k.k (inside₁ l) c.counted-cell.result c.counted-cell.ensures,
      few (goal.at.add_counted-contributing-requires c).Start,
      in_scores c.requires.0 c.args.self.now.inputs c.args.self.now.index.now c.args.self.now.scores.now c.requires.1 c.args.t.turn c.loop-k.k c.requires.3 (inside₁ l) _ (first-is l c.requires.0 c.requires.1 c.requires.2)
          c.counted-cell.result.board
          (its_board c.requires.0 c.args.self.now.inputs c.args.self.now.index.now c.args.t (turning₁ l) c.loop-k.k (inside₁ l) c.counted-cell.result c.counted-cell.ensures),
      omega (arith, sums.few.0, early l),
      omega (arith, sums.few.1, early l),
    )

pub loop-k-preserved : goal.loop-k-preserved
loop-k-preserved c s fit is =
    let m = (goal.at.loop-k-preserved c).In-loop-k in
    let x = c.args in
    let cell = c.counted-cell in
    let t = turning m s fit is in
    let here = inside m s fit is in
    let weigh = its_weight s x.self.now.inputs x.self.now.index.now x.t t c.loop-k.k here cell.result cell.ensures in
    sums_with s x.self.now.inputs x.self.now.index.now x.t t c.loop-k.k here cell.result cell.ensures _
    (λ heavy. found_scores s x.self.now.inputs x.self.now.index.now x.self.now.scores.now fit x.t.turn c.loop-k.k c.requires.3 here
    (4 * (c.loop-k.k * c.marker_count-markers.result) + x.t.turn) (first-is m s fit is) (ap (lt nought) (sym weigh) ∙ heavy))
    c.loop-k.sums c.add_counted-contributing.new.sums c.loop-k.contributing c.add_counted-contributing.result c.add_counted-contributing.ensures
    (c.loop-k.invariant s fit is)

pub returns : goal.returns
returns c s fit is =
    let e = c.loop-k in
    let last : e.k ≡ cell_total s = omega (arith, c.loop-k-test.false, e.auto.k-end, cells_are s c.args.self.now.inputs fit.input.is) in
    summed s c.args.t.turn e.sums e.contributing (subst (λ (n : ℕ). SumsTo s c.args.t.turn n e.sums e.contributing) last (e.invariant s fit is))
