-- `board_match::match_scored` meets its contract. Assumes nothing.
use mathlib.Core.Path.{◌≡◌, refl, sym, ap, ◌∙◌}
use mathlib.Core.List.{List}
use Prim.Native.Nat.{ℕ, ◌*◌, ◌≤◌}
use native.Mathlib.Omega.{arith}
use lib.ListN.{length}
use borrow.Author.Tests.{leb-true, leb-false}
use Rattle.board.specs.Layout.{marker_total}
use Rattle.shot_record.specs.Shots.{shot}
use Rattle.hypothesis.specs.declared.Inputs.{Inputs}
use Rattle.hypothesis.specs.Placements.{cell_total}
use Rattle.hypothesis.specs.Inputs.{Ready}
use Rattle.hypothesis.specs.ScoreList.{marker_total_in, score_count, Scored}
use Rattle.hypothesis.proofs.IndexedCells.{cells_are, board-is, few_cells, search-input}
use Rattle.hypothesis.proofs.ScoreLists.{few-markers, front_scores}
use Rattle.board_match.proofs.Engines.{too_short, searched}
use Rattle.board_match.proofs.match_scored.Goals as goal
use Rattle.board_match.proofs.match_scored.Goals.{After-fill, Else-not-has_room}

module _ (bytes : List ℕ) (i : Inputs) (index : List ℕ) (ready : Ready bytes i index) where
  markers-are : marker_total i.board ≡ marker_total_in (shot bytes)
  markers-are = ap marker_total (board-is (shot bytes) i ready.is)

  count_is : i.cells * marker_total i.board * 4 ≡ score_count (shot bytes)
  count_is = counted i.cells (cell_total (shot bytes)) (marker_total i.board) (marker_total_in (shot bytes)) (cells_are (shot bytes) i ready.is) markers-are
    where
      counted : (a b m n : ℕ) → a ≡ b → m ≡ n → a * m * 4 ≡ b * n * 4
      counted a b m n e f = rw (e, f) refl

pub has_room-requires : goal.has_room-requires
has_room-requires c =
    let l = c.args.loaded.now in
    let s = shot l.bytes.now in
    let ready = l.loaded.ready in (
      (few_cells s l.inputs l.index.now (search-input l.bytes.now l.inputs l.index.now ready)).1,
      omega (arith, markers-are l.bytes.now l.inputs l.index.now ready, few-markers s ready.passed.rows ready.passed.cols),
    )

-- question 24
room : (c : Else-not-has_room) → score_count (shot c.args.loaded.now.bytes.now) ≤ length c.args.scores.now
room c =
    let l = c.args.loaded.now in
    omega (arith, leb-true, sym c.has_room.ensures ∙ c.if-not-has_room.false, count_is l.bytes.now l.inputs l.index.now l.loaded.ready)

pub returns-then-not-has_room : goal.returns-then-not-has_room
returns-then-not-has_room c =
    let l = c.args.loaded.now in
    let h = sym c.has_room.ensures ∙ c.if-not-has_room.true in
    too_short l.bytes.now c.args.scores.now c.args.markers.now l.loaded.ready.whole c.requires
    (omega (arith, leb-false, h, count_is l.bytes.now l.inputs l.index.now l.loaded.ready))

pub fill-requires : goal.fill-requires
fill-requires c = room (goal.at.fill-requires c).Else-not-has_room

-- the filled array
scored : (c : After-fill) → score_count (shot c.args.loaded.now.bytes.now) ≤ length c.args.scores.now
    → Scored (shot c.args.loaded.now.bytes.now) c.args.loaded.now.inputs c.args.loaded.now.index.now c.fill.new.scores
scored c long =
    let l = c.args.loaded.now in
    front_scores (shot l.bytes.now) l.inputs l.index.now (search-input l.bytes.now l.inputs l.index.now l.loaded.ready) c.args.scores.now c.fill.new.scores long
    c.fill.ensures

pub enumerate_hypotheses-found-requires : goal.enumerate_hypotheses-found-requires
enumerate_hypotheses-found-requires c =
    let g = goal.at.enumerate_hypotheses-found-requires c in
    (shot c.args.loaded.now.bytes.now, scored g.After-fill (room g.Else-not-has_room))

pub place_found-requires : goal.place_found-requires
place_found-requires c =
    let g = goal.at.place_found-requires c in
    (c.enumerate_hypotheses-found.ensures (shot c.args.loaded.now.bytes.now) (scored g.After-fill (room g.Else-not-has_room)), c.requires)

pub returns : goal.returns
returns c =
    searched c.args.loaded.now.bytes.now c.args.scores.now c.args.markers.now c.args.loaded.now.loaded.ready.whole c.requires
    (room (goal.at.returns c).Else-not-has_room) c.fill.new.scores c.fill.ensures c.place_found.result c.place_found.new.markers c.place_found.ensures
