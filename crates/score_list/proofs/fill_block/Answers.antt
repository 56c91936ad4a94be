-- `score_list::fill_block` meets its contract. The loop's invariant: the scores of the first m markers are written. Assumes nothing.
use mathlib.Core.Path.{◌≡◌, subst}
use Prim.Native.Nat.{ℕ, ◌+◌, ◌*◌, ◌≤◌}
use native.Mathlib.Omega.{arith}
use lib.ListN.{length}
use lib.Ieee.{nan}
use Rattle.lent_list.specs.Scattered.{Wrote}
use Rattle.lent_list.proofs.Scattered.{wrote_none, wrote_as}
use Rattle.board.specs.Layout.{marker_total}
use Rattle.score_list.specs.Filling.{SpotIn, spot_place, spot_score}
use Rattle.score_list.proofs.Spots.{marker_step}
use Rattle.score_list.proofs.fill_block.Goals as goal
use Rattle.score_list.proofs.fill_block.Goals.{In-loop-m}

pub loop-m-init : goal.loop-m-init
loop-m-init c = wrote_none c.args.scores.now (λ p h. absurd (omega (arith, h.1)))

module _ (c : In-loop-m) where
  few : c.marker_count-markers.result ≤ 512
  few = omega (arith, c.marker_count-markers.ensures, c.requires.2)

as_many : (a m n l : ℕ) → m ≡ n → a * n * 4 ≤ l → a * m * 4 ≤ l
as_many a m n l e h = rw e h

pub put_cells-requires : goal.put_cells-requires
put_cells-requires c =
    let l = c.loop-m in
    let room : (c.args.first + c.args.count) * marker_total c.args.board * 4 ≤ length l.scores = rw l.invariant.size c.requires.4 in (
      c.loop-m-test.true,
      c.requires.3,
      as_many (c.args.first + c.args.count) c.marker_count-markers.result (marker_total c.args.board) (length l.scores)
          c.marker_count-markers.ensures room,
    )

pub loop-m-preserved : goal.loop-m-preserved
loop-m-preserved c =
    let a = c.args in
    let l = c.loop-m in
    marker_step c.marker_count-markers.result a.first a.count l.m (spot_score a.rows.now a.sources.now a.board.bits a.codes.now)
    a.scores.now l.scores c.put_cells.new.scores c.loop-m-test.true l.invariant
    (wrote_as (λ q h. c.sum_turns-sums.ensures q.turn q.cell h.1 (omega (arith, h.0, c.requires.3))) c.put_cells.ensures)

pub returns : goal.returns
returns c =
    let l = c.loop-m in
    let n = c.marker_count-markers in
    let a = c.args in
    let e : l.m ≡ n.result = omega (arith, c.loop-m-test.false, l.auto.m-end) in
    subst (λ (m : ℕ). Wrote nan (SpotIn m a.count) (spot_place m a.first) (spot_score a.rows.now a.sources.now a.board.bits a.codes.now)
    a.scores.now l.scores) n.ensures (rw e at l.invariant)

pub offset_bounds-codes-m : goal.offset_bounds-codes-m
offset_bounds-codes-m c = omega (arith, c.loop-m-test.true, few (goal.at.offset_bounds-codes-m c).In-loop-m)

pub bounds-codes-m : goal.bounds-codes-m
bounds-codes-m c = omega (arith, c.loop-m-test.true, few (goal.at.bounds-codes-m c).In-loop-m)

pub sum_turns-sums-requires : goal.sum_turns-sums-requires
sum_turns-sums-requires c = let p = c.requires in (p.0, p.1)
