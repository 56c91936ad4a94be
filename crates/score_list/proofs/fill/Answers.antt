-- `score_list::fill` meets its contract. The loop's invariant: the scores of the cells of the first `block` blocks of eight are written. Assumes
-- nothing.
use mathlib.Core.Path.{◌≡◌, ap, ◌∙◌, subst}
use mathlib.Core.List.{List}
use Prim.Native.Nat.{ℕ, ◌+◌, ◌-◌, ◌*◌, ◌≤◌, ◌<◌, min}
use native.Mathlib.Nat.{mul-le-mul_right}
use native.Mathlib.Omega.{arith}
use lib.ListN.{length, get_or}
use lib.Ieee.{Float, nan}
use Rattle.std.specs.Ordering.{ord_min, nat_cmp}
use Rattle.std.proofs.lemmas.Bool.Decides.{nat_tests}
use Rattle.lent_list.specs.Scattered.{Wrote}
use Rattle.lent_list.proofs.Scattered.{wrote_none, wrote_as}
use Rattle.board.specs.Layout.{marker_total}
use Rattle.score_matrix.specs.Rows.{Column, FourSources, row_score}
use Rattle.shot_record.specs.Shots.{Shot, first_codes, shot}
use Rattle.shot_record.proofs.Lists.{get_d_list}
use Rattle.hypothesis.specs.declared.Inputs.{Inputs}
use Rattle.hypothesis.specs.Placements.{cell_total}
use Rattle.hypothesis.specs.Inputs.{Ready}
use Rattle.hypothesis.specs.ScoreList.{marker_total_in}
use Rattle.hypothesis.proofs.IndexedCells.{cells_are, board-is, bits_are, few_bits}
use Rattle.hypothesis.proofs.ScoreLists.{few-markers, place-below, scores-in_front}
use Rattle.score_list.specs.Filling.{adds_of, Spot, SpotIn, spot_place, spot_score}
use Rattle.score_list.proofs.Spots.{spot, whole_place, block_step}
use Rattle.score_list.proofs.CellAdds.{column-scores}
use Rattle.score_list.proofs.fill.Invariants.{score_at_spot}
use Rattle.score_list.proofs.fill.Goals as goal
use Rattle.score_list.proofs.fill.Goals.{After-min-count, Start}

-- the scores of a block's cells, from their columns
block_scores : (s : Shot) (rows : List Float) (sources : List ℕ) (bits : ℕ) (codes : List ℕ) (first count : ℕ) → bits ≡ s.bits → codes ≡ first_codes s
    → marker_total_in s ≤ 512 → FourSources bits (bits * bits) sources
    → ((x : ℕ) → x < count → Column (adds_of s (first + x)) (bits * bits) rows x)
    → (p : Spot) → SpotIn (marker_total_in s) count p → spot_score rows sources bits codes p ≡ score_at_spot s (spot (first + p.cell) p.marker p.turn)
block_scores s rows sources bits codes first count e f few from columns p h =
    let first_code : ℕ → ℕ = λ (j : ℕ). get_or s.codes j 0 in
    let code : get_or codes p.marker 0 ≡ get_or s.codes p.marker 0 =
    ap (λ (l : List ℕ). get_or l p.marker 0) f ∙ get_d_list first_code 512 p.marker 0 (omega (arith, h.1, few)) in
    ap (λ (c : ℕ). row_score rows sources bits c p.cell p.turn) code
    ∙ ap (λ (n : ℕ). row_score rows sources n (get_or s.codes p.marker 0) p.cell p.turn) e
    ∙ column-scores s (first + p.cell) rows sources p.cell p.marker p.turn (rw e at (columns p.cell h.0)) (rw e at from) h.2

as_many : (a m n l : ℕ) → m ≡ n → a * n * 4 ≤ l → a * m * 4 ≤ l
as_many a m n l e h = rw e h

-- what is known at the start
module _ (c : Start) where
  abbrev bytes : List ℕ
  bytes = c.args.loaded.now.bytes.now

  abbrev s : Shot
  s = shot bytes

  abbrev inputs : Inputs
  inputs = c.args.loaded.now.inputs

  ready : Ready bytes inputs c.args.loaded.now.index.now
  ready = c.args.loaded.now.loaded.ready

  all : inputs.cells ≡ cell_total s
  all = cells_are s inputs ready.is

  small : inputs.board.bits ≤ 8
  small = few_bits bytes inputs _ ready

  markers-are : marker_total inputs.board ≡ marker_total_in s
  markers-are = ap marker_total (board-is s inputs ready.is)

  few : marker_total_in s ≤ 512
  few = few-markers s ready.passed.rows ready.passed.cols

-- std's minimum of two numbers is theirs
least_is : (a b : ℕ) → ord_min nat_cmp a b ≡ min a b
least_is a b = grind (arith, nat_tests)

-- in the loop, with the count of the block's cells
module _ (c : After-min-count) where
  abbrev first : ℕ
  first = 8 * c.loop-block.block

  abbrev count : ℕ
  count = c.min-count.result

  begun : first < c.args.loaded.now.inputs.cells
  begun = omega (arith, c.loop-block-test.true, c.div_ceil-block-end.ensures)

  count_is : count ≡ min 8 (c.args.loaded.now.inputs.cells - first)
  count_is = c.min-count.ensures ∙ least_is 8 (c.args.loaded.now.inputs.cells - first)

  whole : (first + count ≤ c.args.loaded.now.inputs.cells) × (count ≤ 8)
  whole = (omega (arith, begun, count_is), omega (arith, count_is))

  room : (first + count) * marker_total c.args.loaded.now.inputs.board * 4 ≤ length c.loop-block.scores
  room =
      let b = (goal.at.After-min-count c).Start in
      let n = marker_total_in (s b) in
      let fits : (first + count) * n * 4 ≤ length c.loop-block.scores = omega (
        arith,
        mul-le-mul_right {m = first + count} {n = cell_total (s b)} n (omega (arith, whole.0, all b)),
        c.requires,
        c.loop-block.invariant.size,
      ) in
      as_many (first + count) (marker_total c.args.loaded.now.inputs.board) n (length c.loop-block.scores) (markers-are b) fits

pub four_sources-sources-requires : goal.four_sources-sources-requires
four_sources-sources-requires c = small (goal.at.four_sources-sources-requires c).Start

pub loop-block-init : goal.loop-block-init
loop-block-init c = wrote_none c.args.scores.now (λ p h. absurd (omega (arith, h.0)))

pub fill_rows-requires : goal.fill_rows-requires
fill_rows-requires c =
    let w = whole (goal.at.fill_rows-requires c).After-min-count in (omega (arith, w.0, all (goal.at.fill_rows-requires c).Start), w.1)

pub fill_block-requires : goal.fill_block-requires
fill_block-requires c =
    let b = (goal.at.fill_block-requires c).Start in
    let n = (goal.at.fill_block-requires c).After-min-count in
    (small b, c.four_sources-sources.ensures, omega (arith, markers-are b, few b), (whole n).1, room n)

-- the scores of the cells below n, where the bound is written in two ways
same_end : (s : Shot) (n m : ℕ) (before after : List Float) → n ≡ m
    → Wrote nan (SpotIn (marker_total_in s) n) (whole_place (marker_total_in s)) (score_at_spot s) before after
    → Wrote nan (SpotIn (marker_total_in s) m) (whole_place (marker_total_in s)) (score_at_spot s) before after
same_end s n m before after e w = rw e at w

pub loop-block-preserved : goal.loop-block-preserved
loop-block-preserved c =
    let b = (goal.at.loop-block-preserved c).Start in
    let a = (goal.at.loop-block-preserved c).After-min-count in
    let l = c.loop-block in
    let n = c.min-count.result in
    let lanes = c.fill_rows.new.rows in
    let sources = c.four_sources-sources.result in
    let bits = c.args.loaded.now.inputs.board.bits in
    let codes = c.args.loaded.now.codes.now in
    let so_far = same_end (s b) _ (8 * l.block) c.args.scores.now l.scores (omega (arith, begun a)) l.invariant in
    same_end (s b) (8 * l.block + n) _ c.args.scores.now c.fill_block.new.scores (omega (arith, count_is a, begun a))
    (block_step (marker_total_in (s b)) (8 * l.block) n (score_at_spot (s b)) c.args.scores.now l.scores c.fill_block.new.scores so_far
    (wrote_as (block_scores (s b) lanes sources bits codes (8 * l.block) n (bits_are (s b) (inputs b) (ready b).is) c.args.loaded.now.loaded.codes_are (few b)
    c.four_sources-sources.ensures c.fill_rows.ensures)
    (subst (λ (m : ℕ). Wrote nan (SpotIn m n) (spot_place m (8 * l.block)) (spot_score lanes sources bits codes) l.scores c.fill_block.new.scores)
    (markers-are b) c.fill_block.ensures)))

pub returns : goal.returns
returns c =
    let b = (goal.at.returns c).Start in
    let l = c.loop-block in
    let w = same_end (s b) _ (cell_total (s b)) c.args.scores.now l.scores (omega (arith, c.loop-block-test.false, c.div_ceil-block-end.ensures, all b)) l.invariant in
    scores-in_front (s b) c.args.scores.now l.scores w.size c.requires
    (λ k m r h g t. w.done (spot k m r) (h, g, t))
    (λ i h. w.kept i (λ p g f. absurd (omega (
      arith,
      h,
      f,
      place-below (marker_total_in (s b)) (cell_total (s b)) p.cell p.marker p.turn g.0 g.1 g.2,
    ))))
